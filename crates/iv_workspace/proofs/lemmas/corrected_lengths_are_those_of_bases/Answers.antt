use Rattle.iv_workspace.proofs.ResizeLemmas.{lengths-resized}
use Rattle.iv_workspace.proofs.lemmas.corrected_lengths_are_those_of_bases.Goals as goal

pub returns : goal.returns
returns c = lengths-resized
