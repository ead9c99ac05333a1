-- The example is the machine of its net.
use Rattle.std.proofs.Common.{◌≡◌, ℕ, zero, suc, ◌<◌, [], ◌∷◌, refl, sym, subst, arith, ne_eqb}
use Rattle.run_model.specs.Machine.{APort}
use Rattle.run_model.specs.Netlist.{sources_of, level_of, machine_of}
use Rattle.run_model.specs.Agrees.{SameMeaning, Agrees}
use Rattle.run_model.specs.Example.{example, example_source, example_declared, example_fixed}
use Rattle.run_model.specs.ExampleNet.{example_netlist, example_resets}

port_after : (n : ℕ) → 6 < n → example_source n ≡ APort
port_after n above = rw (ne_eqb n 0 (λ e. omega arith), ne_eqb n 4 (λ e. omega arith)) refl

same_source : (n : ℕ) → SameMeaning (sources_of example_netlist n) (example_source n)
same_source zero = record { clock = refl; rising = refl; reads = λ s. refl; pin = ((λ s. refl), refl); reset = refl }
same_source (suc zero) = tt
same_source (suc (suc zero)) = tt
same_source (suc (suc (suc zero))) = tt
same_source (suc (suc (suc (suc zero)))) = record { clock = refl; rising = refl; reads = λ s. refl; pin = ((λ s. refl), refl); reset = refl }
same_source (suc (suc (suc (suc (suc zero))))) = tt
same_source (suc (suc (suc (suc (suc (suc zero)))))) = tt
same_source (suc (suc (suc (suc (suc (suc (suc k))))))) = subst (λ x. SameMeaning APort x) (sym (port_after (suc (suc (suc (suc (suc (suc (suc k))))))) (omega arith))) tt

same_level : (n : ℕ) → level_of example_resets n ≡ example_declared n
same_level zero = refl
same_level (suc zero) = refl
same_level (suc (suc zero)) = refl
same_level (suc (suc (suc zero))) = refl
same_level (suc (suc (suc (suc zero)))) = refl
same_level (suc (suc (suc (suc (suc zero))))) = refl
same_level (suc (suc (suc (suc (suc (suc zero)))))) = refl
same_level (suc (suc (suc (suc (suc (suc (suc k))))))) =
    rw (ne_eqb 5 (suc (suc (suc (suc (suc (suc (suc k))))))) (λ e. omega arith), ne_eqb 6 (suc (suc (suc (suc (suc (suc (suc k))))))) (λ e. omega arith), ne_eqb (suc (suc (suc (suc (suc (suc (suc k))))))) 5 (λ e. omega arith), ne_eqb (suc (suc (suc (suc (suc (suc (suc k))))))) 6 (λ e. omega arith)) refl

pub net_agrees : Agrees (machine_of example_netlist (level_of example_resets) example_fixed (0 ∷ 4 ∷ [])) example
net_agrees = record { count = refl; source = same_source; declared = same_level; fixed = λ n. refl }
