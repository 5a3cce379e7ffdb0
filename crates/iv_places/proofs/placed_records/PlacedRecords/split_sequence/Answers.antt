use Rattle.std.proofs.Common.{◌∙◌, nat_le, rules}
use Rattle.std.proofs.lemmas.List.Sorted.{IsPartitionPoint-from_clause}
use Rattle.iv_places.specs.Inside.Places.{record_at}
use Rattle.iv_places.proofs.SequenceLemmas.{split-rows}
use Rattle.iv_places.proofs.placed_records.PlacedRecords.split_sequence.Goals as goal

pub returns-clause-here : goal.returns-clause-here
returns-clause-here c =
    let s = c.self.inside in
    c.split_at.ensures.front
    ∙ (split-rows (record_at s.width s.rests.now) c.args.seq s.places.now c.args.self.now c.partition_point.result c.self.view_is c.requires.order c.requires.from c.partition_point.ensures.bound
    (λ parted. IsPartitionPoint-from_clause (λ place. nat_le place.interval.seq c.args.seq) s.places.now c.partition_point.result c.partition_point.ensures.partitioned parted (λ a r q k. search rules))).0

pub returns-clause-later : goal.returns-clause-later
returns-clause-later c =
    let s = c.self.inside in
    c.split_at.ensures.back
    ∙ (split-rows (record_at s.width s.rests.now) c.args.seq s.places.now c.args.self.now c.partition_point.result c.self.view_is c.requires.order c.requires.from c.partition_point.ensures.bound
    (λ parted. IsPartitionPoint-from_clause (λ place. nat_le place.interval.seq c.args.seq) s.places.now c.partition_point.result c.partition_point.ensures.partitioned parted (λ a r q k. search rules))).1
