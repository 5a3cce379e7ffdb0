use Rattle.iv_lines.proofs.LineLemmas.{lines-line}
use Rattle.iv_lines.proofs.lemmas.first_line_ends_at_feed.Goals as goal

pub returns : goal.returns
returns c = lines-line
