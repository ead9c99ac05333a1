-- What a file declares is declared once.
use Rattle.std.proofs.Common.{◌≡◌, ℕ, List, Err, ap, subst}
use Rattle.std.specs.Prelude.{IsErrOf}
use Rattle.thin_form.specs.Design.{Design}
use Rattle.thin_cons.specs.Forms.{Declaration, IsFile}
use Rattle.thin_cons.specs.Roles.{AreRoles, AreMet, Declares}
use Rattle.thin_cons.specs.declared.role.Role.{Role}
use Rattle.thin_cons.proofs.FormsLemmas.{one_file}
use Rattle.thin_cons.proofs.RolesLemmas.{one_roles}

-- the roles are those of each list of declarations that the bytes are a file of
roles_of : (design : Design) (bytes : List ℕ) (declarations : List Declaration) (list : List Role) → IsFile bytes declarations → Declares design bytes list → AreRoles design declarations list
roles_of design bytes declarations list file given = subst (λ (ds : List Declaration). AreRoles design ds list) (one_file bytes given.declarations declarations given.file file) given.roles

pub unless_roles : (design : Design) (bytes : List ℕ) (declarations : List Declaration) → IsFile bytes declarations → ((list : List Role) → AreRoles design declarations list → ⊥) → (list : List Role) → Declares design bytes list → ⊥
unless_roles design bytes declarations file none list given = none list (roles_of design bytes declarations list file given)

pub unless_met : (design : Design) (bytes : List ℕ) (declarations : List Declaration) (found : List Role) → IsFile bytes declarations → AreRoles design declarations found → (AreMet design found → ⊥) → (list : List Role) → Declares design bytes list → ⊥
unless_met design bytes declarations found file are unmet list given =
    unmet (subst (λ (r : List Role). AreMet design r) (one_roles design declarations list found (roles_of design bytes declarations list file given) are) given.met)

pub one_declaration : (design : Design) (bytes : List ℕ) (first second : List Role) → Declares design bytes first → Declares design bytes second → first ≡ second
one_declaration design bytes first second a b = one_roles design b.declarations first second (roles_of design bytes b.declarations first b.file a) b.roles

-- one fault, whatever the value would be
pub same_fault : {A B E : Type 0} (x y : E) → IsErrOf {T = A} (Err x) y → IsErrOf {T = B} (Err x) y
same_fault x y e = let f : x ≡ y = cc in ap (λ z. Err z) f
