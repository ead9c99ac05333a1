-- Serves specs/Headline.antt: a call that answers clean has judged the one design that the files spell, and that design is safe.
use Rattle.std.proofs.Common.{◌≡◌, ℕ, Bool, true, false, List, [], Option, Some, None, Result, Ok, refl, sym, ap, subst, ◌∙◌, inl, inr}
use Rattle.std.specs.Prelude.{IfSome}
use Rattle.rdc_outside.specs.Shelf.{Files, Call}
use Rattle.rdc_outside.specs.declared.outcome.Status.{Status}
use Rattle.rdc_outside.specs.declared.outcome.Status.TheVariants as statuses
use Rattle.vlog_pre.specs.declared.fault.PreFault.{PreFault}
use Rattle.vlog_pre.specs.declared.fault.PreFault.TheVariants as pre
use Rattle.vlog_pre.specs.Known.{State}
use Rattle.vlog_pre.specs.Answer.{NothingFails}
use Rattle.vlog_pre.proofs.OneLemmas.{one_answer_is}
use Rattle.vlog_lex.specs.declared.fault.LexFault.{LexFault}
use Rattle.vlog_lex.specs.declared.fault.LexFault.TheVariants as lex
use Rattle.vlog_lex.specs.Tokens.{AreTokens}
use Rattle.vlog_lex.proofs.TokenLemmas.{one_list_at}
use Rattle.thin_form.specs.Design.{Design}
use Rattle.vlog_lex.specs.declared.tokens.Token.{Token}
use Rattle.vlog_tree.specs.declared.module.Module.{Module}
use Rattle.vlog_tree.specs.Lexemes.{Lexeme}
use Rattle.vlog_parse.specs.declared.fault.ParseFault.{ParseFault}
use Rattle.vlog_parse.specs.declared.fault.ParseFault.TheVariants as parsing
use Rattle.vlog_parse.specs.Begins as parse
use Rattle.vlog_parse.proofs.Given.{laws}
use Rattle.vlog_parse.proofs.OneTreeLemmas.{one_tree}
use Rattle.thin_form.specs.Source.{Says as SaysDesign, IsOneDesign}
use Rattle.thin_cons.specs.Roles.{Declares}
use Rattle.thin_cons.specs.declared.role.Role.{Role}
use Rattle.thin_cons.proofs.Declared.{one_declaration}
use Rattle.run_model.specs.Safe.{IsSafe}
use Rattle.rdcsign.specs.Request.{Request, request_of}
use Rattle.rdcsign.specs.Outcome.{Outcome, Usage, Absent, Read, Source, NotYet, Memory, Judged, Says}
use Rattle.design_form.specs.declared.parts.Parts.{Parts}
use Rattle.vlog_const.specs.declared.answer.ConstFault.TheVariants as const
use Rattle.elab_names.specs.declared.fault.ElabFault.{ElabFault}
use Rattle.elab_names.specs.declared.fault.ElabFault.TheVariants as elab
use Rattle.vlog_elab.specs.Flat.{Gives}
use Rattle.front.specs.Stages.{lib_in}
use Rattle.flat_laws.proofs.OneFlat.{one_flat}
use Rattle.rdcsign.specs.Faults.{stopped, unread, unparsed, unelaborated}
use Rattle.rdcsign.specs.Lexemes.{lexemes_of}
use Rattle.rdcsign.specs.Ends.{IsLoaded, IsOrMemory, SpellModules, SpellFlat, IsReport, Ends, EndsRequest, at_constraints, at_sources, at_tokens, at_modules, at_design, with_all}
use Rattle.rdcsign.specs.Signoff.{Spell}
use Rattle.rdcsign.specs.DesignMachine.{machine_of}
use Rattle.rdcsign.specs.Headline.{CleanIsSafe}
use Rattle.rdcsign.proofs.EndsLemmas.{status_at}
use Rattle.rdcsign.proofs.MachineLemmas.{design_is_safe}

abbrev some_bytes : List ℕ → Option (List ℕ)
some_bytes b = Some b

same_bytes : (a b : List ℕ) → some_bytes a ≡ some_bytes b → a ≡ b
same_bytes a b e = cc

abbrev some_state : State → Result State PreFault
some_state known = Ok known

same_state : (a b : State) → some_state a ≡ some_state b → a ≡ b
same_state a b e = cc

nothing_fails : (known : State) → NothingFails (Ok known)
nothing_fails known = record { reads = λ name is. absurd cc; suffices = λ is. absurd cc }

-- told files spell one list of modules
one_source : (files : Files) (r : Request) (loaded others : List (List ℕ)) (ms ns : List Module) → SpellModules (Some files) r loaded ms → SpellModules (Some files) r others ns → ms ≡ ns
one_source files r loaded others ms ns a b =
    let both = one_answer_is files r.files loaded others (Ok a.known) (Ok b.known) (nothing_fails a.known) (nothing_fails b.known) a.have.expand b.have.expand in
    let known-is : a.known ≡ b.known = same_state a.known b.known both.0 in
    let tokens-is = one_list_at 0 b.known.bytes a.tokens b.tokens (subst (λ (s : State). AreTokens 0 s.bytes a.tokens) known-is a.have.are_tokens) b.have.are_tokens in
    let lexemes-is : lexemes_of a.known a.tokens ≡ lexemes_of b.known b.tokens = ap (λ (s : State). lexemes_of s a.tokens) known-is ∙ ap (lexemes_of b.known) tokens-is in
    one_tree laws (lexemes_of b.known b.tokens) ms ns (subst (λ (ls : List Lexeme). parse.IsAnswer ls ms) lexemes-is a.answer).spelled b.answer.spelled

-- told files spell one flat design
one_design_spelled : (files : Files) (r : Request) (loaded others : List (List ℕ)) (a b : Parts) → SpellFlat (Some files) r loaded a → SpellFlat (Some files) r others b → a ≡ b
one_design_spelled files r loaded others a b x y =
    let modules-is : x.modules ≡ y.modules = one_source files r loaded others x.modules y.modules x.spell y.spell in
    one_flat (lib_in y.modules []) r.top a b (subst (λ (ms : List Module). Gives (lib_in ms []) r.top (Ok a)) modules-is x.gives) y.gives

-- the report of a clean call is that of the design that the files spell
spelled_is_safe : IsOneDesign → (files : Files) (r : Request) (constraints : List ℕ) (loaded : List (List ℕ)) (flat : Parts) (report : List ℕ) (crossing : Bool) → crossing ≡ false → IsLoaded (Some files) r.constraints constraints
    → SpellFlat (Some files) r loaded flat → IsReport r.top constraints flat report crossing → (design : Design) (roles : List Role) → Spell files r design roles → IsSafe (machine_of design roles)
spelled_is_safe one files r constraints loaded flat report crossing clean c t is design roles spell =
    let constraints-is : constraints ≡ spell.are_read.constraints = same_bytes constraints spell.are_read.constraints (sym c.value ∙ spell.are_read.has_constraints.value) in
    let flat-is : flat ≡ spell.are_read.flat = one_design_spelled files r loaded spell.are_read.loaded flat spell.are_read.flat t spell.are_read.spell in
    let says : SaysDesign flat design = subst (λ (f : Parts). SaysDesign f design) (sym flat-is) spell.of_form.design_is in
    let design-is : is.design ≡ design = one flat is.design design is.of_form.design_is says in
    let declares : Declares design constraints roles = subst (λ (bytes : List ℕ). Declares design bytes roles) (sym constraints-is) spell.of_form.roles_are in
    let declares' : Declares is.design constraints roles = subst (λ (d : Design). Declares d constraints roles) (sym design-is) declares in
    let roles-is : is.roles ≡ roles = one_declaration is.design constraints is.roles roles is.of_form.roles_are declares' in
    let safe = design_is_safe is.design constraints is.roles is.closed is.of_form.roles_are (sym is.verdict ∙ clean) in
    subst (λ (d : Design). IsSafe (machine_of d roles)) design-is (subst (λ (list : List Role). IsSafe (machine_of is.design list)) roles-is safe)

-- no fault is a judgement
no_stop : (files : List (List ℕ)) (fault : PreFault) (report : List ℕ) (crossing : Bool) → Judged report crossing ≡ stopped files fault → ⊥
no_stop files pre.Memory report crossing is = absurd cc
no_stop files (pre.Absent name) report crossing is = absurd cc
no_stop files (pre.Read name) report crossing is = absurd cc
no_stop files (pre.TooLong name) report crossing is = absurd cc
no_stop files (pre.UnknownDirective place) report crossing is = absurd cc
no_stop files (pre.Unbalanced place) report crossing is = absurd cc
no_stop files (pre.BadMacroUse place) report crossing is = absurd cc
no_stop files (pre.MacroLoop name place) report crossing is = absurd cc
no_stop files (pre.TooDeep place) report crossing is = absurd cc

no_unread : (files : List (List ℕ)) (fault : LexFault) (report : List ℕ) (crossing : Bool) → Judged report crossing ≡ unread files fault → ⊥
no_unread files lex.Memory report crossing is = absurd cc
no_unread files (lex.BadByte place) report crossing is = absurd cc
no_unread files (lex.BadNumber place) report crossing is = absurd cc
no_unread files (lex.OpenComment place) report crossing is = absurd cc
no_unread files (lex.OpenString place) report crossing is = absurd cc

no_unparsed : (files : List (List ℕ)) (fault : ParseFault) (report : List ℕ) (crossing : Bool) → Judged report crossing ≡ unparsed files fault → ⊥
no_unparsed files parsing.Memory report crossing is = absurd cc
no_unparsed files (parsing.Unsupported word place) report crossing is = absurd cc
no_unparsed files (parsing.Syntax place) report crossing is = absurd cc
no_unparsed files (parsing.TooDeep place) report crossing is = absurd cc

no_unelaborated : (files : List (List ℕ)) (fault : ElabFault) (report : List ℕ) (crossing : Bool) → Judged report crossing ≡ unelaborated files fault → ⊥
no_unelaborated files elab.Memory report crossing is = absurd cc
no_unelaborated files (elab.NoModule name None) report crossing is = absurd cc
no_unelaborated files (elab.NoModule name (Some place)) report crossing is = absurd cc
no_unelaborated files (elab.TwoModules name place) report crossing is = absurd cc
no_unelaborated files (elab.NoPort name place) report crossing is = absurd cc
no_unelaborated files (elab.PortCount place) report crossing is = absurd cc
no_unelaborated files (elab.Undeclared name place) report crossing is = absurd cc
no_unelaborated files (elab.TwiceDeclared name place) report crossing is = absurd cc
no_unelaborated files (elab.NotAssignable place) report crossing is = absurd cc
no_unelaborated files (elab.Recursion name place) report crossing is = absurd cc
no_unelaborated files (elab.HierLimit place) report crossing is = absurd cc
no_unelaborated files (elab.BadRange place) report crossing is = absurd cc
no_unelaborated files (elab.WidthLimit place) report crossing is = absurd cc
no_unelaborated files (elab.GenerateLimit place) report crossing is = absurd cc
no_unelaborated files (elab.Const const.Memory) report crossing is = absurd cc
no_unelaborated files (elab.Const (const.NotConstant place)) report crossing is = absurd cc
no_unelaborated files (elab.Const (const.TooWide place)) report crossing is = absurd cc
no_unelaborated files (elab.Const (const.ZeroDivisor place)) report crossing is = absurd cc
no_unelaborated files (elab.Undriven name place) report crossing is = absurd cc
no_unelaborated files (elab.TwiceDriven name place) report crossing is = absurd cc
no_unelaborated files (elab.Heavy place) report crossing is = absurd cc
no_unelaborated files (elab.NotBuilt place) report crossing is = absurd cc

no_either : (wanted : Outcome) (report : List ℕ) (crossing : Bool) → (Judged report crossing ≡ wanted → ⊥) → IsOrMemory (Judged report crossing) wanted → ⊥
no_either wanted report crossing none (inl is) = none is
no_either wanted report crossing none (inr is) = absurd cc

-- a judgement comes with all in hand
judged_is_safe : IsOneDesign → (files : Files) (r : Request) (report : List ℕ) (crossing : Bool) (made : List Call) → crossing ≡ false → Ends (Some files) r (Judged report crossing) made
    → (design : Design) (roles : List Role) → Spell files r design roles → IsSafe (machine_of design roles)
judged_is_safe one files r report crossing made clean (at_constraints is made-is) = absurd is
judged_is_safe one files r report crossing made clean (at_sources constraints loaded c is made-is) = absurd (no_either (stopped loaded is.fault) report crossing (no_stop loaded is.fault report crossing) is.outcome_is)
judged_is_safe one files r report crossing made clean (at_tokens constraints loaded known c expand is made-is) = absurd (no_either (unread known.files is.fault) report crossing (no_unread known.files is.fault report crossing) is.outcome_is)
judged_is_safe one files r report crossing made clean (at_modules constraints loaded known tokens c are is made-is) = absurd (no_either (unparsed known.files is.fault) report crossing (no_unparsed known.files is.fault report crossing) is.outcome_is)
judged_is_safe one files r report crossing made clean (at_design constraints loaded ms spell c is made-is) = absurd (no_either (unelaborated spell.known.files is.fault) report crossing (no_unelaborated spell.known.files is.fault report crossing) is.outcome_is)
judged_is_safe one files r report crossing made clean (with_all constraints loaded flat c t is made-is) = spelled_is_safe one files r constraints loaded flat report crossing clean c t is

-- Clean is the status of a judgement without a crossing alone
clean_end_is_safe : IsOneDesign → (files : Files) (r : Request) (outcome : Outcome) (made : List Call) (whole : Bool) → statuses.Clean ≡ status_at outcome whole → Ends (Some files) r outcome made
    → (design : Design) (roles : List Role) → Spell files r design roles → IsSafe (machine_of design roles)
clean_end_is_safe one files r Usage made true e = absurd cc
clean_end_is_safe one files r Usage made false e = absurd cc
clean_end_is_safe one files r (Absent n) made true e = absurd cc
clean_end_is_safe one files r (Absent n) made false e = absurd cc
clean_end_is_safe one files r (Read n) made true e = absurd cc
clean_end_is_safe one files r (Read n) made false e = absurd cc
clean_end_is_safe one files r (Source details) made true e = absurd cc
clean_end_is_safe one files r (Source details) made false e = absurd cc
clean_end_is_safe one files r (NotYet n) made true e = absurd cc
clean_end_is_safe one files r (NotYet n) made false e = absurd cc
clean_end_is_safe one files r Memory made true e = absurd cc
clean_end_is_safe one files r Memory made false e = absurd cc
clean_end_is_safe one files r (Judged report true) made true e = absurd cc
clean_end_is_safe one files r (Judged report false) made true e = judged_is_safe one files r report false made refl
clean_end_is_safe one files r (Judged report crossing) made false e = absurd cc

-- the headline, of a call that ends and says so
pub clean_call_is_safe : IsOneDesign → (told : Option Files) (words : List (List ℕ)) (outcome : Outcome) (made : List Call) (status : Status) (old new : Option (List ℕ)) (f f' : ℕ)
    → EndsRequest told (request_of words) outcome made → Says outcome status old new f f' → IfSome told (λ files. CleanIsSafe files words status)
clean_call_is_safe one None words outcome made status old new f f' ends says = tt
clean_call_is_safe one (Some files) words outcome made status old new f f' ends says = λ clean r asked.
    clean_end_is_safe one files r outcome made says.whole (sym clean ∙ says.status_is) (subst (λ (o : Option Request). EndsRequest (Some files) o outcome made) asked ends)
