use Rattle.std.proofs.Common.{rules, ◌<◌, length, [], subst, sym, ◌∙◌, arith}
use Rattle.std.proofs.lemmas.List.{length-map}
use Rattle.std.proofs.lemmas.List.Sorted.{answers_always}
use Rattle.std.proofs.lemmas.Simd.{map-map}
use Rattle.thin_form.specs.declared.entry.Entry.{Entry}
use Rattle.thin_form.specs.Kept.{an_entry}
use Rattle.thin_form.specs.Design.{IsAscending}
use Rattle.thin_form.proofs.Search.{found, absent, stands_at}
use Rattle.thin_form.proofs.Places.{member_at}
use Rattle.thin_form.proofs.entry.number_in.Goals as goal

pub returns-in-Ok : goal.returns-in-Ok
returns-in-Ok c =
    let searched = c.in-Ok.ensures.position (λ e. e.name) (answers_always _ _ _ (λ f a r g called. search rules)) in
    let stands = stands_at c.args.sources.now c.in-Ok.n c.in-Ok.ensures.bound in
    let here = found (λ (e : Entry). e.name.now) c.args.sources.now c.args.name.now c.in-Ok.n c.in-Ok.ensures.bound searched stands.0 stands.1 in
    (omega (arith, length-map c.args.sources.now an_entry, c.in-Ok.ensures.bound), member_at an_entry (λ e. e.name) c.args.sources.now c.in-Ok.n stands.0 [] c.in-Ok.ensures.bound stands.1 ∙ here)

pub returns-in-Err : goal.returns-in-Err
returns-in-Err c n lt same =
    let searched = c.in-Err.ensures.position (λ e. e.name) (answers_always _ _ _ (λ f a r g called. search rules)) in
    let within : n < length c.args.sources.now = omega (arith, length-map c.args.sources.now an_entry) in
    let stands = stands_at c.args.sources.now n within in
    let ascends = subst IsAscending (map-map (λ e. e.name) an_entry c.args.sources.now) c.requires.ascending in
    absent (λ (e : Entry). e.name.now) c.args.sources.now c.args.name.now c.in-Err.field-0 ascends searched n stands.0 within stands.1
    (sym (member_at an_entry (λ e. e.name) c.args.sources.now n stands.0 [] within stands.1) ∙ same)
