use Rattle.std.proofs.Common.{◌≡◌, ℕ, List, [], get_or, Contains, sym, subst, ◌∙◌}
use Rattle.std.specs.Prelude.{slice_index_or}
use Rattle.std.proofs.lemmas.List.{get_or_default}
use Rattle.std.proofs.lemmas.List.Elements.{Contains-get_or}
use Rattle.net_view.specs.Cone.{Lists}
use Rattle.reset_trees.specs.Domain.{InDomain}
use Rattle.reset_trees.specs.Reach.{IsStep}
use Rattle.reset_trees.proofs.DomainLemmas.{domain_reached}
use Rattle.reset_trees.proofs.domain.domain.Goals as goal

pub reached-requires : goal.reached-requires
reached-requires c =
    let steps = c.args.followers.now in
    let row : c.as_slice.result.now ≡ slice_index_or steps c.args.reset [] = c.as_slice.ensures ∙ c.index-followers-reset.is ∙ get_or_default steps c.args.reset c.index-followers-reset.result [] c.requires.inside in
    record {
      closed = c.requires.closed;
      seeds = λ k d lt. c.requires.closed c.args.reset (get_or c.as_slice.result.now k d)
          (subst (λ (xs : List ℕ). Contains xs (get_or c.as_slice.result.now k d)) row (Contains-get_or c.as_slice.result.now k d lt));
    }

pub returns-clause-flops : goal.returns-clause-flops
returns-clause-flops c = λ net is.
    let steps = c.args.followers.now in
    let seeds = c.as_slice.result.now in
    let row : seeds ≡ slice_index_or steps c.args.reset [] = c.as_slice.ensures ∙ c.index-followers-reset.is ∙ get_or_default steps c.args.reset c.index-followers-reset.result [] c.requires.inside in
    subst (λ (xs : List ℕ). Lists (InDomain net c.args.reset) xs) (sym c.from_vec.ensures)
    (domain_reached net c.args.reset (IsStep steps) (Contains seeds) is
    (λ f. (λ h. (is c.args.reset f).0 (subst (λ (xs : List ℕ). Contains xs f) row h), λ p. subst (λ (xs : List ℕ). Contains xs f) (sym row) ((is c.args.reset f).1 p)))
    c.in_ok-flops.flops.items c.in_ok-flops.ensures)
