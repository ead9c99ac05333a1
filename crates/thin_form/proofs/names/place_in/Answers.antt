use Rattle.std.proofs.Common.{rules, ℕ, ◌<◌, [], List, length, sym, ◌∙◌, arith}
use Rattle.std.specs.Borrow.{Bor}
use Rattle.std.proofs.lemmas.List.{length-map}
use Rattle.std.proofs.lemmas.List.Sorted.{answers_always}
use Rattle.thin_tree.specs.Written.{texts}
use Rattle.thin_form.proofs.Search.{found, absent, stands_at, name_there}
use Rattle.thin_form.proofs.Naming.{place_at, among_at, among_nowhere, distinct_names}
use Rattle.thin_form.proofs.names.place_in.Goals as goal

pub returns-in-Ok : goal.returns-in-Ok
returns-in-Ok c =
    let now : Bor (List ℕ) → List ℕ = λ (x : Bor (List ℕ)). x.now in
    let ns = c.args.names.now in
    let searched = c.in-Ok.ensures.position (λ x. x) (answers_always _ _ _ (λ f a r g called. search rules)) in
    let stands = stands_at ns c.in-Ok.n c.in-Ok.ensures.bound in
    let here = found now ns c.args.name.now c.in-Ok.n c.in-Ok.ensures.bound searched stands.0 stands.1 in
    let there = name_there now ns c.in-Ok.n stands.0 [] c.in-Ok.ensures.bound stands.1 ∙ here in
    let within : c.in-Ok.n < length (texts ns) = omega (arith, length-map ns now, c.in-Ok.ensures.bound) in
    (among_at (texts ns) c.in-Ok.n c.args.name.now within there, sym (place_at (texts ns) c.in-Ok.n c.args.name.now (distinct_names (texts ns) c.requires.ascending) within there))

pub returns-in-Err : goal.returns-in-Err
returns-in-Err c =
    let now : Bor (List ℕ) → List ℕ = λ (x : Bor (List ℕ)). x.now in
    let ns = c.args.names.now in
    let searched = c.in-Err.ensures.position (λ x. x) (answers_always _ _ _ (λ f a r g called. search rules)) in
    among_nowhere (texts ns) c.args.name.now (λ n lt same.
    let within : n < length ns = omega (arith, length-map ns now) in
    let stands = stands_at ns n within in
    absent now ns c.args.name.now c.in-Err.field-0 c.requires.ascending searched n stands.0 within stands.1 (sym (name_there now ns n stands.0 [] within stands.1) ∙ same))
