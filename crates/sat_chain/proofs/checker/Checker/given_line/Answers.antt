-- A clause more, which is given.
use Rattle.std.proofs.Common.{arith, sym, ap, ◌∙◌, length, refl}
use Rattle.std.specs.Option.{option_copied}
use Rattle.sat_chain.specs.Scan.{words_after}
use Rattle.sat_chain.proofs.KeptLemmas.{Holds, more_given, given_clause, answers_given, known_given}
use Rattle.sat_chain.proofs.checker.Checker.given_line.Goals as goal

pub invariant_of-self : goal.invariant_of-self
invariant_of-self c =
    let same = c.if-not-read_given.ensures.value.1 in
    record {
      few = c.self.invariant.few;
      places = rw same c.self.invariant.places;
      flags = c.self.invariant.flags;
      clauses = rw same c.self.invariant.clauses;
      follows = rw same c.self.invariant.follows;
      marks = c.self.invariant.marks;
      emptied = c.self.invariant.emptied;
      literals_fit = omega (arith, ap length same, c.read_given.new.lits.ok.0, c.self.inside.lits.ok.0, c.self.invariant.literals_fit, c.read_given.ensures.capacity);
      places_fit = c.self.invariant.places_fit;
      flags_fit = c.self.invariant.flags_fit;
      numbers_fit = c.self.invariant.numbers_fit;
    }

pub invariant_of-self-2 : goal.invariant_of-self-2
invariant_of-self-2 c =
    let r = c.if-not-read_given.ensures.value in
    let h : Holds c.self.inside.vars c.self.inside.lits.items c.self.inside.bounds.items c.self.inside.given.items = record { places = c.self.invariant.places; flags = c.self.invariant.flags; clauses = c.self.invariant.clauses; follows = c.self.invariant.follows } in
    let m = more_given c.self.inside.vars c.self.inside.lits.items c.self.inside.bounds.items c.self.inside.given.items r.0 c.read_given.new.lits.items c.len.result c.push_reserved.new.self.items c.push_reserved-2.new.self.items h
    (given_clause c.self.inside.vars (words_after (option_copied c.args.text)) r.0 r.1) r.2 (c.len.ensures ∙ c.read_given.new.lits.ok.0) c.push_reserved.ensures.items c.push_reserved-2.ensures.items in
    record {
      few = c.self.invariant.few;
      places = m.holds.places;
      flags = m.holds.flags;
      clauses = m.holds.clauses;
      follows = m.holds.follows;
      marks = c.self.invariant.marks;
      emptied = c.self.invariant.emptied;
      literals_fit = omega (arith, c.self.invariant.literals_fit, c.read_given.ensures.capacity, ap (λ k. k.room) c.self.view_is, c.requires.room, c.requires.bytes, c.if-not-read_given.ensures.bytes refl, c.if-not-read_given.ensures.more refl);
      places_fit = omega (arith, c.self.invariant.places_fit, c.push_reserved.ensures.len, c.push_reserved.ensures.capacity, ap (λ k. k.room) c.self.view_is, c.requires.room, c.requires.bytes, c.if-not-read_given.ensures.bytes refl, c.if-not-read_given.ensures.more refl);
      flags_fit = omega (arith, c.self.invariant.flags_fit, c.push_reserved-2.ensures.len, c.push_reserved-2.ensures.capacity, ap (λ k. k.room) c.self.view_is, c.requires.room, c.requires.bytes, c.if-not-read_given.ensures.bytes refl, c.if-not-read_given.ensures.more refl);
      numbers_fit = omega (arith, c.self.invariant.numbers_fit);
    }

pub returns : goal.returns
returns c =
    let r = c.if-not-read_given.ensures.value in
    let h : Holds c.self.inside.vars c.self.inside.lits.items c.self.inside.bounds.items c.self.inside.given.items = record { places = c.self.invariant.places; flags = c.self.invariant.flags; clauses = c.self.invariant.clauses; follows = c.self.invariant.follows } in
    let m = more_given c.self.inside.vars c.self.inside.lits.items c.self.inside.bounds.items c.self.inside.given.items r.0 c.read_given.new.lits.items c.len.result c.push_reserved.new.self.items c.push_reserved-2.new.self.items h
    (given_clause c.self.inside.vars (words_after (option_copied c.args.text)) r.0 r.1) r.2 (c.len.ensures ∙ c.read_given.new.lits.ok.0) c.push_reserved.ensures.items c.push_reserved-2.ensures.items in
    rw (sym c.self.view_is) (answers_given _ c.args.bytes _ r.0 _ r.1 (known_given c.self.inside.vars c.self.inside.room c.args.bytes _ _ _ _ r.0 m.given m.clauses))
