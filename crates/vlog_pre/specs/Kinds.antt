-- What a name after a backtick asks for.
use Rattle.std.specs.Prelude.{ℕ, Bool, true, false, ◌||◌, if◌then◌else◌, List, codes}
use Rattle.std.specs.Str.{bytes_eq}
use Rattle.vlog_pre.specs.declared.kinds.Branch.TheVariants.{Ifdef, Ifndef, Elsif, Else, Endif}
use Rattle.vlog_pre.specs.declared.kinds.Kind.{Kind}
use Rattle.vlog_pre.specs.declared.kinds.Kind.TheVariants.{Define, Undef, Include, Condition, WithLine, Alone, Other}

-- a name of a conditional, or another
unfoldable pub conditional_of : List ℕ → Kind
conditional_of name =
    if bytes_eq name (codes "ifdef") then Condition Ifdef
    else (if bytes_eq name (codes "ifndef") then Condition Ifndef
    else (if bytes_eq name (codes "elsif") then Condition Elsif
    else (if bytes_eq name (codes "else") then Condition Else
    else (if bytes_eq name (codes "endif") then Condition Endif
    else Other))))

-- a name of a directive that is dropped, with its line or alone, or a name of a conditional, or another
unfoldable pub dropped_of : List ℕ → Kind
dropped_of name =
    if bytes_eq name (codes "timescale") || bytes_eq name (codes "default_nettype") then WithLine
    else (if bytes_eq name (codes "celldefine") || bytes_eq name (codes "endcelldefine") || bytes_eq name (codes "resetall") then Alone
    else conditional_of name)

-- what a name asks for
unfoldable pub kind_of : List ℕ → Kind
kind_of name =
    if bytes_eq name (codes "define") then Define
    else (if bytes_eq name (codes "undef") then Undef
    else (if bytes_eq name (codes "include") then Include
    else dropped_of name))

-- the name is no directive's
unfoldable pub is_free : Kind → Bool
is_free Define = false
is_free Undef = false
is_free Include = false
is_free (Condition branch) = false
is_free WithLine = false
is_free Alone = false
is_free Other = true
