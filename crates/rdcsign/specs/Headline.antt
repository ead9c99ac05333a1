-- The headline: where the program answers clean, no permitted run of the design that the files spell disturbs a flop.
-- Whatever comes, in whatever order: clock edges, strikes, settlings, releases and input changes, from power-up on,
-- no flop out of reset is clocked while its data is unsettled, and none is left unsettled (`IsSafe`).
use Rattle.std.specs.Prelude.{◌≡◌, ℕ, List, Some}
use Rattle.rdc_outside.specs.Shelf.{Files}
use Rattle.rdc_outside.specs.declared.outcome.Status.{Status}
use Rattle.rdc_outside.specs.declared.outcome.Status.TheVariants.{Clean}
use Rattle.thin_form.specs.Design.{Design}
use Rattle.thin_cons.specs.declared.role.Role.{Role}
use Rattle.run_model.specs.Safe.{IsSafe}
use Rattle.rdcsign.specs.Request.{Request, request_of}
use Rattle.rdcsign.specs.Signoff.{Spell}
use Rattle.rdcsign.specs.DesignMachine.{machine_of}

-- the answer clean says that the design which the files spell for the request is safe
abbrev pub CleanIsSafe : Files → List (List ℕ) → Status → Type 0
CleanIsSafe files words status =
    status ≡ Clean → (r : Request) → request_of words ≡ Some r → (design : Design) (roles : List Role) → Spell files r design roles → IsSafe (machine_of design roles)
