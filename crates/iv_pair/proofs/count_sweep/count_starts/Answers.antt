use Rattle.std.proofs.Common.{◌≡◌, ◌≤◌, length, drop, true, false, rules}
use Rattle.std.specs.List.Sorted.{IsPartitionPoint}
use Rattle.std.proofs.lemmas.List.Sorted.{IsPartitionPoint-from_clause}
use Rattle.iv_lines.proofs.PieceLemmas.{rest-whole}
use Rattle.iv_pair.specs.Inside.Counts.{place_before}
use Rattle.iv_pair.proofs.FrontLemmas.{split_up-drop, searched-past}
use Rattle.iv_pair.proofs.count_sweep.count_starts.Goals as goal

pub returns : goal.returns
returns c =
    let p = place_before c.args.seq c.args.at in
    let places = c.args.places.now in
    let passed = c.pass_starts-passed.result in
    let split_up = c.requires.ordered c.args.seq c.args.at in
    let whole = rest-whole places passed in
    let point : IsPartitionPoint (λ place. p place ≡ true) (λ place. p place ≡ false) (drop passed places) c.partition_point.result =
    IsPartitionPoint-from_clause p (drop passed places) c.partition_point.result
    (rw whole at c.partition_point.ensures.partitioned) (split_up-drop p places passed split_up) (λ a r q k. search rules) in
    let most : c.partition_point.result ≤ length (drop passed places) = rw whole at c.partition_point.ensures.bound in
    searched-past p places passed c.partition_point.result (record { interval = record { seq = 0; start = 0; stop = 0 }; rest = 0 }) split_up c.pass_starts-passed.ensures.few point most
