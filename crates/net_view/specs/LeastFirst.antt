-- Members in an order in which each stands after those that it depends on, the first that can stand next each time.
--   IsReady, IsNext               what can stand next, and what does
--   IsOrderAfter, IsLeastFirst    the list
--   IsPathTo, IsLoop              a cycle, from its first member on
use Rattle.std.specs.Prelude.{◌≡◌, ◌≢◌, ◌⊎◌, ℕ, List, [], ◌∷◌, ◌++◌, Contains, AllPairs}

module _ (Member : ℕ → Type 0) (DependsOn Before : ℕ → ℕ → Type 0) where
  -- a member that isn't listed yet, and depends on none that isn't listed yet
  pub record IsReady (listed : List ℕ) (n : ℕ) : Type 0 where
    pub member : Member n
    pub unlisted : Contains listed n → ⊥
    pub free : (m : ℕ) → DependsOn n m → Contains listed m

  -- the first such member
  pub record IsNext (listed : List ℕ) (n : ℕ) : Type 0 where
    pub ready : IsReady listed n
    pub first : (m : ℕ) → IsReady listed m → (m ≡ n) ⊎ Before n m

  -- the rest of the list, each in turn next; at its end all members are listed
  abbrev pub IsOrderAfter : List ℕ → List ℕ → Type 0
  IsOrderAfter listed [] = (n : ℕ) → Member n → Contains listed n
  IsOrderAfter listed (n ∷ rest) = IsNext listed n × IsOrderAfter (listed ++ n ∷ []) rest

  -- all members, the first ready one next each time
  abbrev pub IsLeastFirst : List ℕ → Type 0
  IsLeastFirst order = IsOrderAfter [] order

  -- each depends on the next, the last on the end
  abbrev pub IsPathTo : ℕ → List ℕ → Type 0
  IsPathTo end [] = ⊥
  IsPathTo end (n ∷ []) = DependsOn n end
  IsPathTo end (n ∷ m ∷ rest) = DependsOn n m × IsPathTo end (m ∷ rest)

  -- one cycle of members from its first one on, each followed by one that it depends on, the last depending on the first
  abbrev pub IsLoop : List ℕ → Type 0
  IsLoop [] = ⊥
  IsLoop (n ∷ rest) =
      IsPathTo n (n ∷ rest) × AllPairs (λ a b. a ≢ b) (n ∷ rest) × ((m : ℕ) → Contains rest m → Before n m)
