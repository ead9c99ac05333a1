-- What a flat design says in the first form, with no meaning yet. Names are their bytes.
use Rattle.std.specs.Prelude.{ℕ, Bool, List}
pub use Rattle.thin_tree.specs.declared.tree.Class.{Class}
pub use Rattle.thin_tree.specs.declared.tree.Class.TheVariants.{Input, Net, Register}

-- an expression as it is written, its brackets with it
pub data Expr : Type 0 where
  Name : List ℕ → Expr
  Brackets : Expr → Expr
  Not : Expr → Expr
  And : Expr → Expr → Expr
  Or : Expr → Expr → Expr

-- a signal
pub record Declared : Type 0 where
  pub class : Class
  pub name : List ℕ

-- assign TARGET = VALUE;
pub record Assignment : Type 0 where
  pub target : List ℕ
  pub value : Expr

-- always @(posedge CLOCK or EDGE EVENT) if ([!]TESTED) CLEARED <= VALUE; else LOADED <= DATA;
pub record Process : Type 0 where
  pub clock : List ℕ
  pub falling : Bool
  pub event : List ℕ
  pub negated : Bool
  pub tested : List ℕ
  pub cleared : List ℕ
  pub value : Bool
  pub loaded : List ℕ
  pub «data» : Expr

-- the signals, what is assigned to wires, and the processes
pub record Module : Type 0 where
  pub declared : List Declared
  pub assignments : List Assignment
  pub processes : List Process
