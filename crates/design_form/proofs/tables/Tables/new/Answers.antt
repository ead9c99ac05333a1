use Rattle.std.proofs.Common.{ℕ, List, Option, Vec, Global, map, length, ap, ◌∙◌, arith}
use Rattle.std.specs.Option.{unwrap_or}
use Rattle.design_form.specs.declared.signal.Signal.{Signal}
use Rattle.design_form.specs.Signals.{bit_names}
use Rattle.design_form.specs.Numbers.{index_of}
use Rattle.design_form.proofs.DesignLemmas.{few-sorted}
use Rattle.design_form.proofs.tables.Tables.new.Goals as goal

pub new-requires : goal.new-requires
new-requires c =
    let few = few-sorted c.args.signals.now c.in_ok-names.names.items c.in_ok-names.ensures c.requires in
    omega (arith, few, ap length c.deref.ensures.value)

pub returns : goal.returns
returns c =
    let bits = c.in_ok-bits.ensures ∙ ap (λ (xs : List (Vec ℕ Global)). index_of (map (λ n. n.items) xs)) c.deref.ensures.value ∙ ap index_of c.in_ok-names.ensures in
    record {
      few = c.requires;
      names_are = c.in_ok-names.ensures;
      bits_are = bits;
      places_are = c.in_ok-places.ensures;
      numbers_are = c.in_ok-numbers.ensures ∙ ap (λ (f : List ℕ → Option ℕ). map (λ (s : Signal). map (λ n. unwrap_or (f n) 0) (bit_names s)) c.args.signals.now) bits;
    }
