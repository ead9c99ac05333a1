-- What the tables of a design hold.
--     numbers_at t           what a table of names has at each name
--     number_at t name       the same, or 0
--     AreTables ss ..        what names and numbers have to be
--     AreTablesOf ss t       the tables are those of the signals
use Rattle.std.specs.Prelude.{◌≡◌, ℕ, ◌<◌, ◌^◌, List, map, length, Option}
use Rattle.std.specs.Option.{unwrap_or}
use Rattle.std.specs.Str.{bytes_eq}
use Rattle.std.specs.HashMap as hash
use Rattle.design_form.specs.declared.name_table.NameTable.{NameTable}
use Rattle.design_form.specs.declared.signal.Signal.{Signal}
use Rattle.design_form.specs.declared.tables.Tables.{Tables}
use Rattle.design_form.specs.Numbers.{printed, bits_of, index_of, numbers_of}

-- what a table of names has at each name
abbrev pub numbers_at : NameTable → List ℕ → Option ℕ
numbers_at t = λ name. hash.get_by (λ key. bytes_eq name key.items) t.table

-- the same, or 0
abbrev pub number_at : NameTable → List ℕ → ℕ
number_at t name = unwrap_or (numbers_at t name) 0

-- the sorted names, the numbers of bits and of signals by name, and the numbers of each signal's bits
pub record AreTables (signals : List Signal) (names : List (List ℕ)) (bits : List ℕ → Option ℕ) (places : List ℕ → Option ℕ) (numbers : List (List ℕ)) : Type 0 where
  pub few : length (printed signals) < 2 ^ 32
  pub names_are : names ≡ bits_of signals
  pub bits_are : bits ≡ index_of (bits_of signals)
  pub places_are : places ≡ index_of (map (λ s. s.name) signals)
  pub numbers_are : numbers ≡ map (numbers_of signals) signals

abbrev pub AreTablesOf : List Signal → Tables → Type 0
AreTablesOf signals t = AreTables signals (map (λ n. n.items) t.names.items) (numbers_at t.bits) (numbers_at t.places) (map (λ n. n.items) t.numbers.items)
