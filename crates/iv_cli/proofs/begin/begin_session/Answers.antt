use Rattle.iv_cli.proofs.LoadLemmas.{few-beside, fits-beside}
use Rattle.iv_cli.proofs.begin.begin_session.Goals as goal

pub from_places-requires-clause-fit : goal.from_places-requires-clause-fit
from_places-requires-clause-fit g c = c.files.invariant.0.fit

pub from_places-requires-clause-second_fit : goal.from_places-requires-clause-second_fit
from_places-requires-clause-second_fit g c = fits-beside c.files.inside.genome c.files.inside.limit c.files.inside.second c.files.invariant.1

pub from_places-requires-clause-second_few : goal.from_places-requires-clause-second_few
from_places-requires-clause-second_few g c = few-beside c.files.inside.genome c.files.inside.limit c.files.inside.second c.files.invariant.1
