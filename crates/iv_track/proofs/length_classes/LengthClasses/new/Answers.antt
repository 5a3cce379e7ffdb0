use Rattle.std.proofs.Common.{refl}
use Rattle.iv_track.proofs.ClassLemmas.{classes-none}
use Rattle.iv_track.proofs.length_classes.LengthClasses.new.Goals as goal

pub returns : goal.returns
returns c = classes-none _ refl
