use Rattle.std.proofs.Common.{ℕ, take}
use Rattle.std.specs.Prelude.{◌↔◌}
use Rattle.cons_bind.specs.Binding.{forms_of}
use Rattle.cons_bind.specs.Names.{Net}
use Rattle.reset_trees.specs.Domains.{AreDomainsOf}
use Rattle.reset_trees.specs.Reach.{IsStep}
use Rattle.reset_trees.specs.Reads.{PinReads}
use Rattle.reset_trees.proofs.domain.domains_of.Given as goal

abbrev pub invariant-lines : goal.invariant-lines
invariant-lines l = (net : Net) → ((s f : ℕ) → IsStep l.followers s f ↔ PinReads net f s) → AreDomainsOf net (forms_of (take l.line-index l.lines)) l.resets
