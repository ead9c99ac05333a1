-- What is said of a fault of the source: its word, its name where it has one, and its place where it has one.
--     place_text files place      FILE:LINE:COL
--     at_place, of_name           a word with a place, and with a name
--     stopped files fault         how a fault of expansion ends a call
--     unread files fault          how a fault of lexing does
--     unparsed files fault        how a fault of parsing does
--     unvalued files fault        how a fault of a constant does
--     unelaborated files fault    how a fault of elaboration does
--     faulty files fault          how the fault of the first stage that fails does
use Rattle.std.specs.Prelude.{ℕ, List, ◌++◌, Some, None, codes}
use Rattle.std.specs.Fmt.{decimal}
use Rattle.rdc_outside.specs.declared.source.Place.{Place}
use Rattle.vlog_pre.specs.Known.{name_at}
use Rattle.vlog_pre.specs.declared.fault.PreFault.{PreFault}
use Rattle.vlog_pre.specs.declared.fault.PreFault.TheVariants as pre
use Rattle.vlog_lex.specs.declared.fault.LexFault.{LexFault}
use Rattle.vlog_lex.specs.declared.fault.LexFault.TheVariants as lex
use Rattle.vlog_parse.specs.declared.fault.ParseFault.{ParseFault}
use Rattle.vlog_parse.specs.declared.fault.ParseFault.TheVariants as parse
use Rattle.vlog_const.specs.declared.answer.ConstFault.{ConstFault}
use Rattle.vlog_const.specs.declared.answer.ConstFault.TheVariants as const
use Rattle.elab_names.specs.declared.fault.ElabFault.{ElabFault}
use Rattle.elab_names.specs.declared.fault.ElabFault.TheVariants as elab
use Rattle.front.specs.declared.fault.FrontFault.{FrontFault}
use Rattle.front.specs.declared.fault.FrontFault.TheVariants as front
use Rattle.rdcsign.specs.Outcome.{Outcome, Absent, Read, Source, Memory}

-- FILE:LINE:COL, where files are named by their numbers
abbrev pub place_text : List (List ℕ) → Place → List ℕ
place_text files place = name_at files place.file ++ (codes ":" ++ (decimal place.line ++ (codes ":" ++ decimal place.col)))

-- WORD FILE:LINE:COL
abbrev pub at_place : List ℕ → List (List ℕ) → Place → Outcome
at_place word files place = Source (word ++ (codes " " ++ place_text files place))

-- WORD NAME
abbrev pub of_name : List ℕ → List ℕ → Outcome
of_name word name = Source (word ++ (codes " " ++ name))

-- how a fault of expansion ends a call: a missing file and one that can't be read are no faults of the source
abbrev pub stopped : List (List ℕ) → PreFault → Outcome
stopped files pre.Memory = Memory
stopped files (pre.Absent name) = Absent name
stopped files (pre.Read name) = Read name
stopped files (pre.TooLong name) = of_name (codes "toolong") name
stopped files (pre.UnknownDirective place) = at_place (codes "unknowndirective") files place
stopped files (pre.Unbalanced place) = at_place (codes "unbalanced") files place
stopped files (pre.BadMacroUse place) = at_place (codes "badmacrouse") files place
stopped files (pre.MacroLoop name place) = at_place (codes "macroloop " ++ name) files place
stopped files (pre.TooDeep place) = at_place (codes "toodeep") files place

-- how a fault of lexing ends a call
abbrev pub unread : List (List ℕ) → LexFault → Outcome
unread files lex.Memory = Memory
unread files (lex.BadByte place) = at_place (codes "badbyte") files place
unread files (lex.BadNumber place) = at_place (codes "badnumber") files place
unread files (lex.OpenComment place) = at_place (codes "opencomment") files place
unread files (lex.OpenString place) = at_place (codes "openstring") files place

-- how a fault of parsing ends a call
abbrev pub unparsed : List (List ℕ) → ParseFault → Outcome
unparsed files parse.Memory = Memory
unparsed files (parse.Unsupported word place) = at_place (codes "unsupported " ++ word) files place
unparsed files (parse.Syntax place) = at_place (codes "syntax") files place
unparsed files (parse.TooDeep place) = at_place (codes "toodeep") files place

-- how a fault of a constant ends a call
abbrev pub unvalued : List (List ℕ) → ConstFault → Outcome
unvalued files const.Memory = Memory
unvalued files (const.NotConstant place) = at_place (codes "notconstant") files place
unvalued files (const.TooWide place) = at_place (codes "toowide") files place
unvalued files (const.ZeroDivisor place) = at_place (codes "zerodivisor") files place

-- how a fault of elaboration ends a call: the top stands nowhere, and a fault of a constant prints as itself
abbrev pub unelaborated : List (List ℕ) → ElabFault → Outcome
unelaborated files elab.Memory = Memory
unelaborated files (elab.NoModule name None) = of_name (codes "nomodule") name
unelaborated files (elab.NoModule name (Some place)) = at_place (codes "nomodule " ++ name) files place
unelaborated files (elab.TwoModules name place) = at_place (codes "twomodules " ++ name) files place
unelaborated files (elab.NoPort name place) = at_place (codes "noport " ++ name) files place
unelaborated files (elab.PortCount place) = at_place (codes "portcount") files place
unelaborated files (elab.Undeclared name place) = at_place (codes "undeclared " ++ name) files place
unelaborated files (elab.TwiceDeclared name place) = at_place (codes "twicedeclared " ++ name) files place
unelaborated files (elab.NotAssignable place) = at_place (codes "notassignable") files place
unelaborated files (elab.Recursion name place) = at_place (codes "recursion " ++ name) files place
unelaborated files (elab.HierLimit place) = at_place (codes "hierlimit") files place
unelaborated files (elab.BadRange place) = at_place (codes "badrange") files place
unelaborated files (elab.WidthLimit place) = at_place (codes "widthlimit") files place
unelaborated files (elab.GenerateLimit place) = at_place (codes "generatelimit") files place
unelaborated files (elab.Const fault) = unvalued files fault
unelaborated files (elab.Undriven name place) = at_place (codes "undriven " ++ name) files place
unelaborated files (elab.TwiceDriven name place) = at_place (codes "twicedriven " ++ name) files place
unelaborated files (elab.Heavy place) = at_place (codes "heavy") files place
unelaborated files (elab.NotBuilt place) = at_place (codes "notbuilt") files place

-- how the fault of the first stage that fails ends a call
abbrev pub faulty : List (List ℕ) → FrontFault → Outcome
faulty files front.Memory = Memory
faulty files (front.Lex fault) = unread files fault
faulty files (front.Parse fault) = unparsed files fault
faulty files (front.Elab fault) = unelaborated files fault
