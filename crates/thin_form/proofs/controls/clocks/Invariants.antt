use Rattle.std.proofs.Common.{◌≡◌, ℕ, false, ◌||◌, List, drop, length, get_or}
use Rattle.std.specs.Prelude.{IsTrue}
use Rattle.thin_tree.specs.Written.{texts}
use Rattle.thin_form.specs.Meaning.{place}
use Rattle.thin_form.specs.Rules.{is_among, clocks}
use Rattle.thin_form.specs.Numbers.{AreInputs}
use Rattle.thin_form.specs.Order.{all_processes}
use Rattle.thin_form.proofs.controls.clocks.Given as goal

abbrev pub invariant-loop-p : goal.invariant-loop-p
invariant-loop-p l = record {
  len : length l.marks.items ≡ length l.sources;
  marked : (name : List ℕ) → IsTrue (is_among name (texts l.sources)) → (get_or l.marks.items (place (texts l.sources) name) false || is_among name (clocks (all_processes (drop l.p-index l.processes)))) ≡ is_among name (clocks (all_processes l.processes));
  sound : AreInputs (texts l.inputs) (all_processes (drop l.p-index l.processes)) → AreInputs (texts l.inputs) (all_processes l.processes);
  complete : AreInputs (texts l.inputs) (all_processes l.processes) → AreInputs (texts l.inputs) (all_processes (drop l.p-index l.processes));
}
