use Rattle.std.proofs.Common.{◌^◌, arith}
use Rattle.std.specs.Option.{option_map}
use Rattle.iv_run.proofs.FastaPieceLemmas.{fasta-begun, fasta-few}
use Rattle.iv_run.proofs.held_fasta.read_fasta.Goals as goal

pub read_pieces-requires-clause-begun : goal.read_pieces-requires-clause-begun
read_pieces-requires-clause-begun g c =
    let wanted = option_map (λ ranks. ranks.items) c.args.wanted in
    (wanted, fasta-begun wanted c.args.genome.now c.new.result c.new.ensures.read_on c.new.ensures.size)

pub finish_fasta-requires : goal.finish_fasta-requires
finish_fasta-requires g c =
    let wanted = option_map (λ ranks. ranks.items) c.args.wanted in
    let genome = c.args.genome.now in
    let read = c.in_ok-all.ensures.ok in
    record { few = fasta-few wanted genome read.0 c.in_ok-all.all (2 ^ 64) (read.2 wanted (fasta-begun wanted genome c.new.result c.new.ensures.read_on c.new.ensures.size)) (omega (arith, read.1.few, c.requires)) }

pub returns-clause-ok : goal.returns-clause-ok
returns-clause-ok g c =
    let wanted = option_map (λ ranks. ranks.items) c.args.wanted in
    let genome = c.args.genome.now in
    let read = c.in_ok-all.ensures.ok in
    (read.0, read.1, c.finish_fasta.ensures wanted read.0 (read.2 wanted (fasta-begun wanted genome c.new.result c.new.ensures.read_on c.new.ensures.size)))
