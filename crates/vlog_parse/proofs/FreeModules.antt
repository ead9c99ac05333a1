-- A module begins with the word `module`, and has none behind it.
use Rattle.std.proofs.Common.{◌≡◌, List, [], ◌∷◌, ◌++◌, refl}
use Rattle.std.specs.Prelude.{codes}
use Rattle.vlog_tree.specs.declared.port.Port.{Port}
use Rattle.vlog_tree.specs.declared.module.Parameter.{Parameter}
use Rattle.vlog_tree.specs.declared.module.Module.{Module}
use Rattle.vlog_tree.specs.Lexemes.{Lexeme, IsWord}
use Rattle.vlog_tree.specs.Modules as m
use Rattle.vlog_tree.specs.Modules.{SpellsParameter, SpellsFurther, AreParameters, SpellsParameters, SpellsName, SpellsAnsi, SpellsPort, ArePorts, SpellsPorts, SpellsModule}
use Rattle.vlog_parse.proofs.FreeLemmas.{Free, nothing, both, moved, mark, word, ident}
use Rattle.vlog_parse.proofs.FreeItems.{commas, name, shape, binding, direction, items}

parameter : {ls : List Lexeme} {p : Parameter} → SpellsParameter ls p → Free ls
parameter (m.parameter ss bs shaped bound parts) = moved parts (both (shape shaped) (binding bound))

further : {ls : List Lexeme} {p : Parameter} → SpellsFurther ls p → Free ls
further (m.without h) = parameter h
further (m.with one ps worded h parts) = moved parts (word (codes "parameter") one worded refl (parameter h))

listed : {ls : List Lexeme} {ps : List Parameter} → AreParameters ls ps → Free ls
listed (m.one one xs p worded h parts all) = moved parts (word (codes "parameter") one worded refl (parameter h))
listed (m.more one comma xs ys p others worded h marks rest parts all) =
    moved parts (word (codes "parameter") one worded refl (both (parameter h) (mark 44 [] comma marks (commas (λ us a f. further f) rest))))

parameters : {ls : List Lexeme} {ps : List Parameter} → SpellsParameters ls ps → Free ls
parameters (m.none is all) = moved is nothing
parameters (m.some hash left right xs hashes opens h closes parts) = moved parts (mark 35 [] hash hashes (mark 40 [] left opens (both (listed h) (mark 41 [] right closes nothing))))

bare : {ls : List Lexeme} {p : Port} → SpellsName ls p → Free ls
bare (m.name i h by) = name h

ansi : {ls : List Lexeme} {p : Port} → SpellsAnsi ls p → Free ls
ansi (m.ansi one ds ss d across i directed shaped named parts by) = moved parts (both (direction directed) (both (shape shaped) (ident one i named nothing)))

port : {ls : List Lexeme} {p : Port} → SpellsPort ls p → Free ls
port (m.ansi h) = ansi h
port (m.name h) = bare h

ports_in : {ls : List Lexeme} {ps : List Port} → ArePorts ls ps → Free ls
ports_in (m.names h) = commas (λ us a f. bare f) h
ports_in (m.one p h all) = ansi h
ports_in (m.more comma xs ys p others h marks rest parts all) = moved parts (both (ansi h) (mark 44 [] comma marks (commas (λ us a f. port f) rest)))

ports : {ls : List Lexeme} {ps : List Port} → SpellsPorts ls ps → Free ls
ports (m.none is all) = moved is nothing
ports (m.empty left right opens closes is all) = moved is (mark 40 [] left opens (mark 41 [] right closes nothing))
ports (m.some left right xs opens h closes parts) = moved parts (mark 40 [] left opens (both (ports_in h) (mark 41 [] right closes nothing)))

-- a word in front that is `module`, and none behind it
pub record OneWord (us : List Lexeme) : Type 0 where
  pub head : Lexeme
  pub inside : List Lexeme
  pub is : us ≡ head ∷ inside
  pub worded : IsWord (codes "module") head
  pub free : Free inside

pub one_word : {us : List Lexeme} {a : Module} → SpellsModule us a → OneWord us
one_word {a = a} (m.«module» one l semi end qs ps is worded named params prts marks held ends parts at) = record {
  head = one;
  inside = l ∷ (qs ++ (ps ++ semi ∷ (is ++ end ∷ [])));
  is = parts;
  worded = worded;
  free = ident l a.name named (both (parameters params) (both (ports prts) (mark 59 [] semi marks (both (items held) (word (codes "endmodule") end ends refl nothing)))));
}
