use Rattle.std.proofs.Common.{◌<◌, ◌^◌, ◌-◌, length, get_or, arith}
use Rattle.std.proofs.lemmas.List.{length-map}
use Rattle.thin_form.proofs.Walks.{read_there}
use Rattle.thin_form.proofs.ordering.next.Goals as goal

pub bounds-marks-v : goal.bounds-marks-v
bounds-marks-v c =
    let within : get_or c.args.marks.now c.args.u 0 - 1 < length c.index-reads-u.result.items = omega (arith, c.len.ensures) in
    let read = read_there (λ r. r.items) c.args.reads.now c.args.u (get_or c.args.marks.now c.args.u 0 - 1) c.index-v.result.now c.index-reads-u.result c.requires.wire c.index-reads-u.is within c.index-v.ensures in
    omega (arith, c.requires.within c.args.u c.index-v.result.now read, c.requires.len, length-map c.args.reads.now (λ r. r.items))

pub returns-clause-room : goal.returns-clause-room
returns-clause-room c = let h = c.index-reads-u.result.small in let k : c.len.result < 2 ^ 63 = omega (arith, c.len.ensures, h) in omega arith
