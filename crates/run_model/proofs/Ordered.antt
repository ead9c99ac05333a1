-- A pin order is one for every machine with the same sources.
use Rattle.std.proofs.Common.{◌≡◌, ℕ, Bool, List, [], ◌∷◌, Option, refl, ◌∙◌}
use Rattle.run_model.specs.Machine.{Machine}
use Rattle.run_model.specs.Laws.{IsPinOrder, IsOrdered}
use Rattle.run_model.specs.Netlist.{Netlist, machine_of}

pins_alike : (m k : Machine) → ((n : ℕ) → m.source n ≡ k.source n) → (ns : List ℕ) → IsPinOrder m ns → IsPinOrder k ns
pins_alike m k same [] h = tt
pins_alike m k same (n ∷ ns) h =
    (λ f p j pin c reads. h.0 f p j (record { flop = same n ∙ pin.flop; pin = pin.pin }) c reads, h.1, pins_alike m k same ns h.2)

-- which ports are resets, clocks or tied has no part in it
pub ordered_alike : (net : Netlist) (d f e g : ℕ → Option Bool) (ns : List ℕ) → IsOrdered (machine_of net d f ns) → IsOrdered (machine_of net e g ns)
ordered_alike net d f e g ns h = record {
  pins = pins_alike (machine_of net d f ns) (machine_of net e g ns) (λ n. refl) ns h.pins;
  listed = h.listed;
}
