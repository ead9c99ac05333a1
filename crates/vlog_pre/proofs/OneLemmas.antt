-- One list of files has at most one answer.
use Rattle.std.proofs.Common.{◌≡◌, ℕ, ◌≤◌, ◌<◌, List, [], ◌∷◌, ◌++◌, Option, Some, None, Result, Ok, Err, length, sym, ap, subst, ◌∙◌, arith}
use Rattle.std.specs.Option.{IsSomeAnd}
use Rattle.rdc_outside.specs.Shelf.{Files}
use Rattle.vlog_items.specs.Items.{Item, items_of_file}
use Rattle.vlog_pre.specs.declared.fault.PreFault.{PreFault}
use Rattle.vlog_pre.specs.declared.fault.PreFault.TheVariants.{Memory, Absent, Read, TooLong}
use Rattle.vlog_pre.specs.Known.{State, Step, finished, refused, goes_on, loads}
use Rattle.vlog_pre.specs.Expansion.{Expands, ends, stops, goes, enters, misses, exceeds, fails, wants, wants_more, next, with_file, first_place, first_state, first_items}
use Rattle.vlog_pre.specs.Answer.{NothingFails, OneText, OneAnswer}

-- what follows once a file is asked for
data Loading (files : Files) (name : List ℕ) (within : List (List ℕ)) (known : State) (items : List Item) (loaded : List (List ℕ)) (answer : Result State PreFault) : Type 0 where
  entered : (bytes : List ℕ) (later : List (List ℕ)) → files name ≡ Some bytes → length bytes ≤ 16777216 → Expands (Some files) (with_file known name) (items_of_file within (first_place known) bytes ++ items) later answer → loaded ≡ name ∷ later → Loading files name within known items loaded answer
  missed : files name ≡ None → loaded ≡ name ∷ [] → answer ≡ Err (Absent name) → Loading files name within known items loaded answer
  exceeded : IsSomeAnd (files name) (λ bytes. 16777216 < length bytes) → loaded ≡ name ∷ [] → answer ≡ Err (TooLong name) → Loading files name within known items loaded answer
  failed : answer ≡ Err (Read name) → Loading files name within known items loaded answer
  wanted : answer ≡ Err Memory → Loading files name within known items loaded answer

-- what follows a step
abbrev Follows : Files → Step → State → List (List ℕ) → Result State PreFault → Type 0
Follows files finished known loaded answer = (loaded ≡ []) × (answer ≡ Ok known)
Follows files (refused fault) known loaded answer = (loaded ≡ []) × (answer ≡ Err fault)
Follows files (goes_on after rest) known loaded answer = Expands (Some files) after rest loaded answer
Follows files (loads name within after rest) known loaded answer = Loading files name within after rest loaded answer

follows : (files : Files) (known : State) (items : List Item) (loaded : List (List ℕ)) (answer : Result State PreFault) → NothingFails answer → Expands (Some files) known items loaded answer → Follows files (next known items) known loaded answer
follows files known items loaded answer done (ends step none all) = subst (λ (s : Step). Follows files s known loaded answer) (sym step) (none, all)
follows files known items loaded answer done (stops fault step none all) = subst (λ (s : Step). Follows files s known loaded answer) (sym step) (none, all)
follows files known items loaded answer done (goes after rest step more) = subst (λ (s : Step). Follows files s known loaded answer) (sym step) more
follows files known items loaded answer done (enters name within after rest bytes later step told fits more all) =
    subst (λ (s : Step). Follows files s known loaded answer) (sym step) (entered bytes later told fits more all)
follows files known items loaded answer done (misses name within after rest step told one_load all) =
    subst (λ (s : Step). Follows files s known loaded answer) (sym step) (missed told one_load all)
follows files known items loaded answer done (exceeds name within after rest step told one_load all) =
    subst (λ (s : Step). Follows files s known loaded answer) (sym step) (exceeded told one_load all)
follows files known items loaded answer done (fails name within after rest step one_load all) = subst (λ (s : Step). Follows files s known loaded answer) (sym step) (failed all)
follows files known items loaded answer done (wants none all) = absurd (done.suffices all)
follows files known items loaded answer done (wants_more name within after rest step one_load all) = absurd (done.suffices all)

-- what is found under a name is one thing
abbrev bytes_in : List ℕ → Option (List ℕ) → List ℕ
bytes_in other None = other
bytes_in other (Some bytes) = bytes

same_bytes : (bytes others : List ℕ) (found : Option (List ℕ)) → found ≡ Some bytes → found ≡ Some others → bytes ≡ others
same_bytes bytes others found is also = ap (λ (o : Option (List ℕ)). bytes_in bytes o) (sym is ∙ also)

there : (bytes : List ℕ) (found : Option (List ℕ)) → found ≡ Some bytes → found ≡ None → ⊥
there bytes found is none = let differ : ◌≡◌ {A = Option (List ℕ)} (Some bytes) None = sym is ∙ none in absurd cc

short : (bytes : List ℕ) (found : Option (List ℕ)) → found ≡ Some bytes → length bytes ≤ 16777216 → IsSomeAnd found (λ more. 16777216 < length more) → ⊥
short bytes found is fits long =
    let long_one : IsSomeAnd (Some bytes) (λ (more : List ℕ). 16777216 < length more) = subst (λ (o : Option (List ℕ)). IsSomeAnd o (λ more. 16777216 < length more)) is long in absurd (omega (arith, fits, long_one))

missing : (found : Option (List ℕ)) → found ≡ None → IsSomeAnd found (λ more. 16777216 < length more) → ⊥
missing found none long = subst (λ (o : Option (List ℕ)). IsSomeAnd o (λ more. 16777216 < length more)) none long

-- two answers are the same, and so are the files loaded for them
abbrev Same : (answer other : Result State PreFault) (loaded others : List (List ℕ)) → Type 0
Same answer other loaded others = (answer ≡ other) × (loaded ≡ others)

-- after a file that is there
entered_one : (files : Files) (name : List ℕ) (within : List (List ℕ)) (known : State) (items : List Item) (loaded others later : List (List ℕ)) (answer other : Result State PreFault) (bytes : List ℕ) → files name ≡ Some bytes → length bytes ≤ 16777216
    → ((more : List (List ℕ)) → Expands (Some files) (with_file known name) (items_of_file within (first_place known) bytes ++ items) more other → Same answer other later more) → loaded ≡ name ∷ later → NothingFails other → Loading files name within known items others other → Same answer other loaded others
entered_one files name within known items loaded others later answer other bytes told fits rest all read (entered found more told' fits' d all') =
    let same : found ≡ bytes = same_bytes found bytes (files name) told' told in
    let both : Same answer other later more = rest more (subst (λ (bs : List ℕ). Expands (Some files) (with_file known name) (items_of_file within (first_place known) bs ++ items) more other) same d) in
    (both.0, all ∙ ap (λ (l : List (List ℕ)). name ∷ l) both.1 ∙ sym all')
entered_one files name within known items loaded others later answer other bytes told fits rest all read (missed none one_load all') = absurd (there bytes (files name) told none)
entered_one files name within known items loaded others later answer other bytes told fits rest all read (exceeded long one_load all') = absurd (short bytes (files name) told fits long)
entered_one files name within known items loaded others later answer other bytes told fits rest all read (failed is) = absurd (read.reads name is)
entered_one files name within known items loaded others later answer other bytes told fits rest all read (wanted is) = absurd (read.suffices is)

-- after a file that is not there
missed_one : (files : Files) (name : List ℕ) (within : List (List ℕ)) (known : State) (items : List Item) (loaded others : List (List ℕ)) (answer other : Result State PreFault) → files name ≡ None → loaded ≡ name ∷ [] → answer ≡ Err (Absent name) → NothingFails other → Loading files name within known items others other → Same answer other loaded others
missed_one files name within known items loaded others answer other none all is read (entered found more told fits d all') = absurd (there found (files name) told none)
missed_one files name within known items loaded others answer other none all is read (missed none' all' is') = (is ∙ sym is', all ∙ sym all')
missed_one files name within known items loaded others answer other none all is read (exceeded long all' is') = absurd (missing (files name) none long)
missed_one files name within known items loaded others answer other none all is read (failed is') = absurd (read.reads name is')
missed_one files name within known items loaded others answer other none all is read (wanted is') = absurd (read.suffices is')

-- after a file that is too long
exceeded_one : (files : Files) (name : List ℕ) (within : List (List ℕ)) (known : State) (items : List Item) (loaded others : List (List ℕ)) (answer other : Result State PreFault) → IsSomeAnd (files name) (λ bytes. 16777216 < length bytes) → loaded ≡ name ∷ [] → answer ≡ Err (TooLong name) → NothingFails other → Loading files name within known items others other → Same answer other loaded others
exceeded_one files name within known items loaded others answer other long all is read (entered found more told fits d all') = absurd (short found (files name) told fits long)
exceeded_one files name within known items loaded others answer other long all is read (missed none all' is') = absurd (missing (files name) none long)
exceeded_one files name within known items loaded others answer other long all is read (exceeded long' all' is') = (is ∙ sym is', all ∙ sym all')
exceeded_one files name within known items loaded others answer other long all is read (failed is') = absurd (read.reads name is')
exceeded_one files name within known items loaded others answer other long all is read (wanted is') = absurd (read.suffices is')

-- two expansions of the same, of which no load fails, are the same
one : (files : Files) (known : State) (items : List Item) (loaded : List (List ℕ)) (answer : Result State PreFault) → Expands (Some files) known items loaded answer → NothingFails answer → (others : List (List ℕ)) (other : Result State PreFault) → NothingFails other → Expands (Some files) known items others other → Same answer other loaded others
one files known items loaded answer (ends step none all) done others other read also =
    let last : Follows files finished known others other = subst (λ (s : Step). Follows files s known others other) step (follows files known items others other read also) in
    (all ∙ sym last.1, none ∙ sym last.0)
one files known items loaded answer (stops fault step none all) done others other read also =
    let last : Follows files (refused fault) known others other = subst (λ (s : Step). Follows files s known others other) step (follows files known items others other read also) in
    (all ∙ sym last.1, none ∙ sym last.0)
one files known items loaded answer (goes after rest step more) done others other read also =
    let second : Follows files (goes_on after rest) known others other = subst (λ (s : Step). Follows files s known others other) step (follows files known items others other read also) in
    one files after rest loaded answer more done others other read second
one files known items loaded answer (enters name within after rest bytes later step told fits more all) done others other read also =
    entered_one files name within after rest loaded others later answer other bytes told fits (λ after_it d. one files (with_file after name) (items_of_file within (first_place after) bytes ++ rest) later answer more done after_it other read d) all read
    (subst (λ (s : Step). Follows files s known others other) step (follows files known items others other read also))
one files known items loaded answer (misses name within after rest step told one_load all) done others other read also =
    missed_one files name within after rest loaded others answer other told one_load all read (subst (λ (s : Step). Follows files s known others other) step (follows files known items others other read also))
one files known items loaded answer (exceeds name within after rest step told one_load all) done others other read also =
    exceeded_one files name within after rest loaded others answer other told one_load all read (subst (λ (s : Step). Follows files s known others other) step (follows files known items others other read also))
one files known items loaded answer (fails name within after rest step one_load all) done others other read also = absurd (done.reads name all)
one files known items loaded answer (wants none all) done others other read also = absurd (done.suffices all)
one files known items loaded answer (wants_more name within after rest step one_load all) done others other read also = absurd (done.suffices all)

pub one_answer_is : OneAnswer
one_answer_is files names loaded others answer other done read so also = one files first_state (first_items names) loaded answer so done others other read also

-- the state of an answer
abbrev state_in : State → Result State PreFault → State
state_in other (Ok known) = known
state_in other (Err fault) = other

ok_is_read : (known : State) → NothingFails (Ok known)
ok_is_read known = record { reads = λ name is. absurd cc; suffices = λ is. absurd cc }

pub one_text_is : OneText
one_text_is files names loaded others text other so also =
    let both : Same (Ok so.known) (Ok also.known) loaded others = one files first_state (first_items names) loaded (Ok so.known) so.expands (ok_is_read so.known) others (Ok also.known) (ok_is_read also.known) also.expands in
    let same : so.known ≡ also.known = ap (λ (r : Result State PreFault). state_in so.known r) both.0 in (
      record {
        bytes = so.is_text.bytes ∙ ap (λ (s : State). s.bytes) same ∙ sym also.is_text.bytes;
        places = so.is_text.places ∙ ap (λ (s : State). s.places ++ s.end ∷ []) same ∙ sym also.is_text.places;
        files = so.is_text.files ∙ ap (λ (s : State). s.files) same ∙ sym also.is_text.files;
      },
      both.1,
    )
