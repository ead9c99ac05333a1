-- From a text to one flat design, stage by stage.
--     Tokenized t ts, Parsed t ts ms        its tokens, and the modules that they spell
--     Answers t top boxes result            the design, or the fault of the first stage that fails
use Rattle.std.specs.Prelude.{◌≡◌, ℕ, List, length, Result, Ok, Err}
use Rattle.rdc_outside.specs.declared.source.Place.{Place}
use Rattle.rdc_outside.specs.declared.source.Text.{Text}
use Rattle.vlog_lex.specs.declared.tokens.Token.{Token}
use Rattle.vlog_lex.specs.Tokens.{AreTokens}
use Rattle.vlog_lex.specs.Tokens as lexing
use Rattle.vlog_tree.specs.declared.module.Module.{Module}
use Rattle.vlog_tree.specs.Lexemes.{Lexeme, lexemes, place_at}
use Rattle.vlog_parse.specs.Begins as parsing
use Rattle.vlog_parse.specs.Begins.{IsAnswer}
use Rattle.design_form.specs.declared.parts.Parts.{Parts}
use Rattle.elab_binds.specs.declared.boxes.BoxPorts.{BoxPorts}
use Rattle.elab_items.specs.Instances.{Lib}
use Rattle.vlog_elab.specs.Flat.{Gives}
use Rattle.front.specs.declared.fault.FrontFault.{FrontFault}
use Rattle.front.specs.declared.fault.FrontFault.TheVariants.{Memory, Lex, Parse, Elab}

abbrev pub lexemes_of : Text → List Token → List Lexeme
lexemes_of t ts = lexemes t.bytes t.places ts

-- its tokens
abbrev pub Tokenized : Text → List Token → Type 0
Tokenized t ts = AreTokens 0 t.bytes ts

-- the modules that they spell
abbrev pub Parsed : Text → List Token → List Module → Type 0
Parsed t ts ms = IsAnswer (lexemes_of t ts) ms

abbrev pub lib_in : List Module → List BoxPorts → Lib
lib_in ms boxes = record { modules = ms; boxes = boxes }

-- the design, or the fault of the first stage that fails
abbrev pub Answers : Text → List ℕ → List BoxPorts → Result Parts FrontFault → Type 0
Answers t top boxes (Ok d) = (ts : List Token) × (ms : List Module) × Tokenized t ts × Parsed t ts ms × Gives (lib_in ms boxes) top (Ok d)
Answers t top boxes (Err Memory) = Unit {0}
Answers t top boxes (Err (Lex fault)) = lexing.IsFault t.bytes t.places fault
Answers t top boxes (Err (Parse fault)) = (ts : List Token) × Tokenized t ts × parsing.IsFault (place_at t.places (length t.bytes)) (lexemes_of t ts) fault
Answers t top boxes (Err (Elab fault)) = (ts : List Token) × (ms : List Module) × Tokenized t ts × Parsed t ts ms × Gives (lib_in ms boxes) top (Err fault)
