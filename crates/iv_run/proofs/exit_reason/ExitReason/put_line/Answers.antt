use Rattle.iv_run.proofs.exit_reason.ExitReason.put_line.Goals as goal

pub returns-in-InputUnreadable-clause-line : goal.returns-in-InputUnreadable-clause-line
returns-in-InputUnreadable-clause-line g c = rw c.in-InputUnreadable.is c.put_said-in-InputUnreadable.ensures

pub returns-in-InputTooLong-clause-line : goal.returns-in-InputTooLong-clause-line
returns-in-InputTooLong-clause-line g c = rw c.in-InputTooLong.is c.put_said-in-InputTooLong.ensures

pub returns-in-Output-clause-line : goal.returns-in-Output-clause-line
returns-in-Output-clause-line g c = rw c.in-Output.is c.put_said-in-Output.ensures

pub returns-in-Memory-clause-line : goal.returns-in-Memory-clause-line
returns-in-Memory-clause-line g c = rw c.in-Memory.is c.put_said-in-Memory.ensures
