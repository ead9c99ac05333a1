-- A clause more, which is derived.
use Rattle.std.proofs.Common.{◌≡◌, ℕ, ◌^◌, ◌<◌, List, arith, sym, ap, ◌∙◌, subst, length, take, drop, vec_len, Ok, Err, refl}
use Rattle.std.specs.Option.{option_copied}
use Rattle.std.specs.Vec.{with_items}
use Rattle.std.proofs.lemmas.List.{with_items_is}
use Rattle.sat_chain.specs.Text.{chain_of}
use Rattle.sat_chain.specs.Scan.{words_after}
use Rattle.sat_chain.specs.Store.{cut}
use Rattle.sat_chain.specs.Marks.{at}
use Rattle.sat_chain.proofs.SoundLemmas.{derived_met}
use Rattle.sat_chain.proofs.KeptLemmas.{Holds, more_derived, derived_within, within_marks, take_front, drop_front, judged, passes_clause, refuted, small_cut, answers_fault, answers_derived, known_derived}
use Rattle.sat_chain.proofs.checker.Checker.derived_line.Goals as goal

pub invariant_of-self : goal.invariant_of-self
invariant_of-self c =
    let same = c.if-not-read_derived.ensures.value.1 in
    record {
      few = c.self.invariant.few;
      places = rw same c.self.invariant.places;
      flags = c.self.invariant.flags;
      clauses = rw same c.self.invariant.clauses;
      follows = rw same c.self.invariant.follows;
      marks = c.self.invariant.marks;
      emptied = c.self.invariant.emptied;
      literals_fit = omega (arith, ap length same, c.read_derived.new.lits.ok.0, c.self.inside.lits.ok.0, c.self.invariant.literals_fit, c.read_derived.ensures.capacity);
      places_fit = c.self.invariant.places_fit;
      flags_fit = c.self.invariant.flags_fit;
      numbers_fit = omega (arith, c.self.invariant.numbers_fit, c.read_derived.ensures.numbers);
    }

pub judge-requires-clause-within : goal.judge-requires-clause-within
judge-requires-clause-within c =
    let r = c.if-not-read_derived.ensures.value in
    let h : Holds c.self.inside.vars c.self.inside.lits.items c.self.inside.bounds.items c.self.inside.given.items = record { places = c.self.invariant.places; flags = c.self.invariant.flags; clauses = c.self.invariant.clauses; follows = c.self.invariant.follows } in
    let start : c.len-start.result ≡ length c.self.inside.lits.items = c.len-start.ensures ∙ c.self.inside.lits.ok.0 in
    let within = derived_within c.self.inside.vars (chain_of (words_after (option_copied c.args.text))) r.0 r.1 r.2 in
    let fronts : c.split_at.result.0.now ≡ c.self.inside.lits.items = c.split_at.ensures.front ∙ ap (λ l. take c.len-start.result l) c.as_slice.ensures.value ∙ ap (λ n. take n c.read_derived.new.lits.items) start ∙ take_front c.self.inside.lits.items r.1 c.read_derived.new.lits.items r.4 in
    let backs : c.split_at.result.1.now ≡ r.1 = c.split_at.ensures.back ∙ ap (λ l. drop c.len-start.result l) c.as_slice.ensures.value ∙ ap (λ n. drop n c.read_derived.new.lits.items) start ∙ drop_front c.self.inside.lits.items r.1 c.read_derived.new.lits.items r.4 in
    rw (backs, c.as_mut_slice.ensures.len) (within_marks c.self.inside.vars (vec_len c.self.inside.marks) r.1 within (omega (arith, c.self.inside.marks.ok.0, c.self.invariant.marks)))

pub invariant_of-self-in-Err : goal.invariant_of-self-in-Err
invariant_of-self-in-Err c =
    let r = c.if-not-read_derived.ensures.value in
    let h : Holds c.self.inside.vars c.self.inside.lits.items c.self.inside.bounds.items c.self.inside.given.items = record { places = c.self.invariant.places; flags = c.self.invariant.flags; clauses = c.self.invariant.clauses; follows = c.self.invariant.follows } in
    let start : c.len-start.result ≡ length c.self.inside.lits.items = c.len-start.ensures ∙ c.self.inside.lits.ok.0 in
    let within = derived_within c.self.inside.vars (chain_of (words_after (option_copied c.args.text))) r.0 r.1 r.2 in
    let fronts : c.split_at.result.0.now ≡ c.self.inside.lits.items = c.split_at.ensures.front ∙ ap (λ l. take c.len-start.result l) c.as_slice.ensures.value ∙ ap (λ n. take n c.read_derived.new.lits.items) start ∙ take_front c.self.inside.lits.items r.1 c.read_derived.new.lits.items r.4 in
    let backs : c.split_at.result.1.now ≡ r.1 = c.split_at.ensures.back ∙ ap (λ l. drop c.len-start.result l) c.as_slice.ensures.value ∙ ap (λ n. drop n c.read_derived.new.lits.items) start ∙ drop_front c.self.inside.lits.items r.1 c.read_derived.new.lits.items r.4 in
    let marks : (with_items c.self.inside.marks c.judge.new.marks).items ≡ c.judge.new.marks = with_items_is c.self.inside.marks c.judge.new.marks (c.judge.auto.marks ∙ c.as_mut_slice.ensures.len) in
    let same : c.truncate.new.self.items ≡ c.self.inside.lits.items = c.truncate.ensures.items ∙ ap (λ n. take n c.read_derived.new.lits.items) start ∙ take_front c.self.inside.lits.items r.1 c.read_derived.new.lits.items r.4 in
    record {
      few = c.self.invariant.few;
      places = rw same c.self.invariant.places;
      flags = c.self.invariant.flags;
      clauses = rw same c.self.invariant.clauses;
      follows = rw same c.self.invariant.follows;
      marks = ap length marks ∙ c.judge.auto.marks ∙ c.as_mut_slice.ensures.len ∙ c.self.inside.marks.ok.0 ∙ c.self.invariant.marks;
      emptied = ap at marks ∙ c.judge.ensures.emptied;
      literals_fit = omega (arith, ap length same, c.truncate.new.self.ok.0, c.self.inside.lits.ok.0, c.self.invariant.literals_fit, c.read_derived.ensures.capacity, c.truncate.ensures.capacity);
      places_fit = c.self.invariant.places_fit;
      flags_fit = c.self.invariant.flags_fit;
      numbers_fit = omega (arith, c.self.invariant.numbers_fit, c.read_derived.ensures.numbers);
    }

pub invariant_of-self-in-Ok : goal.invariant_of-self-in-Ok
invariant_of-self-in-Ok c =
    let r = c.if-not-read_derived.ensures.value in
    let h : Holds c.self.inside.vars c.self.inside.lits.items c.self.inside.bounds.items c.self.inside.given.items = record { places = c.self.invariant.places; flags = c.self.invariant.flags; clauses = c.self.invariant.clauses; follows = c.self.invariant.follows } in
    let start : c.len-start.result ≡ length c.self.inside.lits.items = c.len-start.ensures ∙ c.self.inside.lits.ok.0 in
    let within = derived_within c.self.inside.vars (chain_of (words_after (option_copied c.args.text))) r.0 r.1 r.2 in
    let fronts : c.split_at.result.0.now ≡ c.self.inside.lits.items = c.split_at.ensures.front ∙ ap (λ l. take c.len-start.result l) c.as_slice.ensures.value ∙ ap (λ n. take n c.read_derived.new.lits.items) start ∙ take_front c.self.inside.lits.items r.1 c.read_derived.new.lits.items r.4 in
    let backs : c.split_at.result.1.now ≡ r.1 = c.split_at.ensures.back ∙ ap (λ l. drop c.len-start.result l) c.as_slice.ensures.value ∙ ap (λ n. drop n c.read_derived.new.lits.items) start ∙ drop_front c.self.inside.lits.items r.1 c.read_derived.new.lits.items r.4 in
    let marks : (with_items c.self.inside.marks c.judge.new.marks).items ≡ c.judge.new.marks = with_items_is c.self.inside.marks c.judge.new.marks (c.judge.auto.marks ∙ c.as_mut_slice.ensures.len) in
    let small = small_cut (length c.self.inside.lits.items) c.self.inside.bounds.items c.self.inside.lits.items c.self.invariant.places (subst (λ (b : List ℕ). length b < 2 ^ 64) c.as_slice-2.ensures.value c.as_slice-2.type_inv.0) in
    let d = judged c.self.inside.bounds.items c.as_slice-2.result.now c.self.inside.lits.items c.split_at.result.0.now r.0 c.as_slice-3.result.now r.1 c.split_at.result.1.now (Ok c.in-Ok.seen) c.as_slice-2.ensures.value fronts (c.as_slice-3.ensures.value ∙ r.3) backs small c.in-Ok.ensures.value in
    let m = more_derived c.self.inside.vars c.self.inside.lits.items c.self.inside.bounds.items c.self.inside.given.items r.1 c.read_derived.new.lits.items c.len.result c.push_reserved.new.self.items c.push_reserved-in-Ok.new.self.items h
    (passes_clause c.self.inside.vars (cut c.self.inside.bounds.items c.self.inside.lits.items) r.0 r.1 c.in-Ok.seen d within)
    (derived_met c.self.inside.vars (cut c.self.inside.bounds.items c.self.inside.lits.items) r.0 r.1 h.clauses d.0 d.1)
    r.4 (c.len.ensures ∙ c.read_derived.new.lits.ok.0) c.push_reserved.ensures.items c.push_reserved-in-Ok.ensures.items in
    record {
      few = c.self.invariant.few;
      places = m.holds.places;
      flags = m.holds.flags;
      clauses = m.holds.clauses;
      follows = m.holds.follows;
      marks = ap length marks ∙ c.judge.auto.marks ∙ c.as_mut_slice.ensures.len ∙ c.self.inside.marks.ok.0 ∙ c.self.invariant.marks;
      emptied = ap at marks ∙ c.judge.ensures.emptied;
      literals_fit = omega (arith, c.self.invariant.literals_fit, c.read_derived.ensures.capacity, ap (λ k. k.room) c.self.view_is, c.requires.room, c.requires.bytes, c.if-not-read_derived.ensures.bytes refl, c.read_derived.ensures.longer);
      places_fit = omega (arith, c.self.invariant.places_fit, c.push_reserved.ensures.len, c.push_reserved.ensures.capacity, ap (λ k. k.room) c.self.view_is, c.requires.room, c.requires.bytes, c.if-not-read_derived.ensures.bytes refl, c.read_derived.ensures.longer);
      flags_fit = omega (arith, c.self.invariant.flags_fit, c.push_reserved-in-Ok.ensures.len, c.push_reserved-in-Ok.ensures.capacity, ap (λ k. k.room) c.self.view_is, c.requires.room, c.requires.bytes, c.if-not-read_derived.ensures.bytes refl, c.read_derived.ensures.longer);
      numbers_fit = omega (arith, c.self.invariant.numbers_fit, c.read_derived.ensures.numbers);
    }

pub returns-in-Err : goal.returns-in-Err
returns-in-Err c =
    let r = c.if-not-read_derived.ensures.value in
    let h : Holds c.self.inside.vars c.self.inside.lits.items c.self.inside.bounds.items c.self.inside.given.items = record { places = c.self.invariant.places; flags = c.self.invariant.flags; clauses = c.self.invariant.clauses; follows = c.self.invariant.follows } in
    let start : c.len-start.result ≡ length c.self.inside.lits.items = c.len-start.ensures ∙ c.self.inside.lits.ok.0 in
    let within = derived_within c.self.inside.vars (chain_of (words_after (option_copied c.args.text))) r.0 r.1 r.2 in
    let fronts : c.split_at.result.0.now ≡ c.self.inside.lits.items = c.split_at.ensures.front ∙ ap (λ l. take c.len-start.result l) c.as_slice.ensures.value ∙ ap (λ n. take n c.read_derived.new.lits.items) start ∙ take_front c.self.inside.lits.items r.1 c.read_derived.new.lits.items r.4 in
    let backs : c.split_at.result.1.now ≡ r.1 = c.split_at.ensures.back ∙ ap (λ l. drop c.len-start.result l) c.as_slice.ensures.value ∙ ap (λ n. drop n c.read_derived.new.lits.items) start ∙ drop_front c.self.inside.lits.items r.1 c.read_derived.new.lits.items r.4 in
    let small = small_cut (length c.self.inside.lits.items) c.self.inside.bounds.items c.self.inside.lits.items c.self.invariant.places (subst (λ (b : List ℕ). length b < 2 ^ 64) c.as_slice-2.ensures.value c.as_slice-2.type_inv.0) in
    let d = judged c.self.inside.bounds.items c.as_slice-2.result.now c.self.inside.lits.items c.split_at.result.0.now r.0 c.as_slice-3.result.now r.1 c.split_at.result.1.now (Err c.in-Err.fault) c.as_slice-2.ensures.value fronts (c.as_slice-3.ensures.value ∙ r.3) backs small c.in-Err.ensures.value in
    let same : c.truncate.new.self.items ≡ c.self.inside.lits.items = c.truncate.ensures.items ∙ ap (λ n. take n c.read_derived.new.lits.items) start ∙ take_front c.self.inside.lits.items r.1 c.read_derived.new.lits.items r.4 in
    rw (sym c.self.view_is) (answers_fault _ c.args.bytes _ r.0 r.1 c.in-Err.fault _ r.2 d (rw same refl))

pub returns-in-Ok : goal.returns-in-Ok
returns-in-Ok c =
    let r = c.if-not-read_derived.ensures.value in
    let h : Holds c.self.inside.vars c.self.inside.lits.items c.self.inside.bounds.items c.self.inside.given.items = record { places = c.self.invariant.places; flags = c.self.invariant.flags; clauses = c.self.invariant.clauses; follows = c.self.invariant.follows } in
    let start : c.len-start.result ≡ length c.self.inside.lits.items = c.len-start.ensures ∙ c.self.inside.lits.ok.0 in
    let within = derived_within c.self.inside.vars (chain_of (words_after (option_copied c.args.text))) r.0 r.1 r.2 in
    let fronts : c.split_at.result.0.now ≡ c.self.inside.lits.items = c.split_at.ensures.front ∙ ap (λ l. take c.len-start.result l) c.as_slice.ensures.value ∙ ap (λ n. take n c.read_derived.new.lits.items) start ∙ take_front c.self.inside.lits.items r.1 c.read_derived.new.lits.items r.4 in
    let backs : c.split_at.result.1.now ≡ r.1 = c.split_at.ensures.back ∙ ap (λ l. drop c.len-start.result l) c.as_slice.ensures.value ∙ ap (λ n. drop n c.read_derived.new.lits.items) start ∙ drop_front c.self.inside.lits.items r.1 c.read_derived.new.lits.items r.4 in
    let small = small_cut (length c.self.inside.lits.items) c.self.inside.bounds.items c.self.inside.lits.items c.self.invariant.places (subst (λ (b : List ℕ). length b < 2 ^ 64) c.as_slice-2.ensures.value c.as_slice-2.type_inv.0) in
    let d = judged c.self.inside.bounds.items c.as_slice-2.result.now c.self.inside.lits.items c.split_at.result.0.now r.0 c.as_slice-3.result.now r.1 c.split_at.result.1.now (Ok c.in-Ok.seen) c.as_slice-2.ensures.value fronts (c.as_slice-3.ensures.value ∙ r.3) backs small c.in-Ok.ensures.value in
    let m = more_derived c.self.inside.vars c.self.inside.lits.items c.self.inside.bounds.items c.self.inside.given.items r.1 c.read_derived.new.lits.items c.len.result c.push_reserved.new.self.items c.push_reserved-in-Ok.new.self.items h
    (passes_clause c.self.inside.vars (cut c.self.inside.bounds.items c.self.inside.lits.items) r.0 r.1 c.in-Ok.seen d within)
    (derived_met c.self.inside.vars (cut c.self.inside.bounds.items c.self.inside.lits.items) r.0 r.1 h.clauses d.0 d.1)
    r.4 (c.len.ensures ∙ c.read_derived.new.lits.ok.0) c.push_reserved.ensures.items c.push_reserved-in-Ok.ensures.items in
    rw (sym c.self.view_is) (answers_derived _ c.args.bytes _ r.0 r.1 c.in-Ok.seen _ r.2 d (known_derived c.self.inside.vars c.self.inside.room c.args.bytes _ _ _ _ r.0 r.1 m.given m.clauses)
    (λ none. refuted _ (cut c.self.inside.bounds.items c.self.inside.lits.items) _ r.1 m.holds.follows m.clauses none))
