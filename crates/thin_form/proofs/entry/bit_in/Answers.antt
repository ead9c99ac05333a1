use Rattle.std.proofs.Common.{rules, ◌≡◌, ◌<◌, length, subst, sym, ap, ◌∙◌, arith}
use Rattle.std.proofs.lemmas.List.{length-map}
use Rattle.std.proofs.lemmas.List.Sorted.{answers_always}
use Rattle.std.proofs.lemmas.Option.{slice_get_within}
use Rattle.std.proofs.lemmas.Simd.{map-map}
use Rattle.thin_form.specs.declared.kind.Bit.{Bit}
use Rattle.thin_form.specs.Netlist.{NetBit}
use Rattle.thin_form.specs.Kept.{a_bit, all_bits}
use Rattle.thin_form.specs.Design.{IsAscending}
use Rattle.thin_form.proofs.Search.{found, absent, stands_at}
use Rattle.thin_form.proofs.Places.{seen_at}
use Rattle.thin_form.proofs.entry.bit_in.Goals as goal

pub returns-in-Ok : goal.returns-in-Ok
returns-in-Ok c =
    let searched = c.in-Ok.ensures.position (λ e. e.name) (answers_always _ _ _ (λ f a r g called. search rules)) in
    let stands = stands_at c.args.bits.now c.in-Ok.n c.in-Ok.ensures.bound in
    let here = found (λ (e : Bit). e.name.now) c.args.bits.now c.args.name.now c.in-Ok.n c.in-Ok.ensures.bound searched stands.0 stands.1 in
    (a_bit stands.0, seen_at a_bit c.args.bits.now c.in-Ok.n stands.0 c.in-Ok.ensures.bound stands.1, here)

pub returns-in-Err : goal.returns-in-Err
returns-in-Err c b bit at same =
    let searched = c.in-Err.ensures.position (λ e. e.name) (answers_always _ _ _ (λ f a r g called. search rules)) in
    let inside = slice_get_within (all_bits c.args.bits.now) b bit at in
    let within : b < length c.args.bits.now = omega (arith, length-map c.args.bits.now a_bit, inside) in
    let stands = stands_at c.args.bits.now b within in
    let ascends = subst IsAscending (map-map (λ (e : NetBit). e.name) a_bit c.args.bits.now) c.requires.ascending in
    let seen = seen_at a_bit c.args.bits.now b stands.0 within stands.1 in
    let one : bit ≡ a_bit stands.0 = cc in
    absent (λ (e : Bit). e.name.now) c.args.bits.now c.args.name.now c.in-Err.field-0 ascends searched b stands.0 within stands.1
    (sym (ap (λ (x : NetBit). x.name) one) ∙ same)
