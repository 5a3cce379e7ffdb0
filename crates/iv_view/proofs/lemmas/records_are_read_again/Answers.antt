use Rattle.iv_view.proofs.RecordsAgain.{line-again, line-lengths, file-again, bed-again}
use Rattle.iv_view.proofs.lemmas.records_are_read_again.Goals as goal

pub returns-clause-line : goal.returns-clause-line
returns-clause-line c = λ g width line r is. line-again g width line r is.0 is.1

pub returns-clause-lengths : goal.returns-clause-lengths
returns-clause-lengths c = λ g other width line r. line-lengths g other width line r

pub returns-clause-records : goal.returns-clause-records
returns-clause-records c = λ g width empty limit records is. file-again g limit width is.0 is.1 empty records

pub returns-clause-file : goal.returns-clause-file
returns-clause-file c = bed-again
