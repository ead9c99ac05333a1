-- The four parts of the name decide.
use Rattle.std.proofs.Common.{◌+◌, ◌≤◌, length, sym, ◌∙◌, arith}
use Rattle.cons_bind.specs.Names.{IsIndexed}
use Rattle.cons_bind.proofs.NamesLemmas.{parted_at, some_digits, indexed_parts, parts_indexed, decided, told_same, told_apart}
use Rattle.cons_bind.proofs.names.is_indexed.Goals as goal

pub returns-then-ne : goal.returns-then-ne
returns-then-ne c = λ is.
    let vector = c.args.vector.now in
    let name = c.args.name.now in
    let room : length vector + 3 ≤ length name = omega arith in
    let parted = parted_at vector name c.split_at.result.0.now c.split_at.result.1.now c.split_at-2.result.0.now c.split_at-2.result.1.now c.split_at-3.result.0.now c.split_at-3.result.1.now room
    c.split_at.ensures.front c.split_at.ensures.back c.split_at-2.ensures.front c.split_at-2.ensures.back c.split_at-3.ensures.front c.split_at-3.ensures.back in
    told_apart c.split_at.result.0.now vector _ c.ne.ensures c.if-ne.true (indexed_parts vector name _ _ _ _ parted is).front_is

pub returns : goal.returns
returns c =
    let vector = c.args.vector.now in
    let name = c.args.name.now in
    let room : length vector + 3 ≤ length name = omega arith in
    let parted = parted_at vector name c.split_at.result.0.now c.split_at.result.1.now c.split_at-2.result.0.now c.split_at-2.result.1.now c.split_at-3.result.0.now c.split_at-3.result.1.now room
    c.split_at.ensures.front c.split_at.ensures.back c.split_at-2.ensures.front c.split_at-2.ensures.back c.split_at-3.ensures.front c.split_at-3.ensures.back in
    let front = told_same c.split_at.result.0.now vector _ c.ne.ensures c.if-ne.false in
    let bracket = told_same c.split_at-2.result.0.now c.as_slice.result.now _ c.ne-2.ensures c.if-ne-2.false ∙ c.as_slice.ensures in
    let close = told_same c.split_at-3.result.1.now c.as_slice-2.result.now _ c.ne-3.ensures c.if-ne-3.false ∙ c.as_slice-2.ensures in
    decided c.are_digits.result (IsIndexed vector name)
    (λ yes. parts_indexed vector name _ _ _ _ parted (some_digits vector name _ _ _ _ room parted) (record { front_is = front; bracket_is = bracket; digits_are = sym c.are_digits.ensures ∙ yes; close_is = close }))
    (λ is. c.are_digits.ensures ∙ (indexed_parts vector name _ _ _ _ parted is).digits_are)
