-- The claims of the lines so far, as code marks them.
use Rattle.std.specs.Prelude.{◌≡◌, ◌<◌, ℕ, List, length, All, Contains}
use Rattle.cons_bind.specs.Claims.{roles_in, tracks_in, waives_in, all_of}
use Rattle.cons_bind.specs.Marks.{Marks}
use Rattle.cons_bind.specs.declared.bound.BoundForm.{BoundForm}
use Rattle.cons_bind.specs.declared.claims.Taken.{Taken}

-- the claims of these lines are marked
pub record IsTaken (before : List BoundForm) (taken : Taken) : Type 0 where
  pub roles : Marks (Contains (all_of roles_in before)) taken.roles.items
  pub tracks : Marks (Contains (all_of tracks_in before)) taken.tracks.items
  pub waives : Marks (Contains (all_of waives_in before)) taken.waives.items

-- the line's sources are below the count
pub record AreInside (count : ℕ) (form : BoundForm) : Type 0 where
  pub roles : All (λ s. s < count) (roles_in form)
  pub tracks : All (λ s. s < count) (tracks_in form)
  pub waives : All (λ s. s < count) (waives_in form)

-- the marks of a net of so many sources
pub record AreSized (count : ℕ) (taken : Taken) : Type 0 where
  pub roles : length taken.roles.items ≡ count
  pub tracks : length taken.tracks.items ≡ count
  pub waives : length taken.waives.items ≡ count
