-- What the reading of an input has shown of it.
use Rattle.std.proofs.Common.{◌≡◌, ◌≢◌, ◌⊎◌, inl, inr, ℕ, ◌+◌, ◌-◌, ◌<◌, ◌≤◌, Bool, true, false, cond, IsTrue, List, [], ◌∷◌, ◌++◌, length, take, refl, sym, ap, subst, ◌∙◌, arith}
use Rattle.std.specs.Prelude.{Option, Some, None, Result, Ok, Err}
use Rattle.std.specs.Option.{option_map}
use Rattle.std.specs.List.{concat}
use Rattle.std.specs.FinMap as finite_map
use Rattle.std.proofs.lemmas.Bool.{cases_lt, lt-ltb, le-ltb, false≢true}
use Rattle.std.proofs.lemmas.List.{append_assoc, append-nil, length-append}
use Rattle.std.proofs.Math.Seq.{take-append_seam, take-append-add}
use Rattle.desk_io.specs.Contents.{Contents, Tells, IsSteady, Lacks, opened}
use Rattle.desk_io.specs.Feed.{TakesAll}
use Rattle.desk_io.specs.Reader.{TakesPiece, StandsAt}
use Rattle.desk_io.specs.Reading.{Reads as ReadsBytes, HandsOn, HandsOnAll, PassesLimit, HandsOnUntil, OnFailed, OnTooLong, OnNoMemory, IfRefused, CountsReadFailure, input_limit, piece_limit}
use Rattle.desk_io.specs.declared.desk.DeskFault.{DeskFault}
use Rattle.desk_io.specs.declared.desk.DeskFault.TheVariants as calls
use Rattle.desk_io.specs.declared.read_all.ReadEnd.{ReadEnd}
use Rattle.desk_io.specs.declared.read_all.ReadEnd.TheVariants.{Failed, TooLong, NoMemory, Refused}
use Rattle.chl_inputs.specs.Inputs.{Input, input_from, judged, past_limit, value_at, value_of}
use Rattle.chl_inputs.specs.Stages.{CountsStop, Conforms, ReadsPart, reading, Conformed}
use Rattle.desk_io.specs.declared.desk.Desk.{Ghosts}
use mathlib.Core.Path.{fun_ext}
use Rattle.chl_inputs.specs.Stops.{end_stop, opening_stop, HasMemoryOnce, MayStop}
use Rattle.chl_inputs.specs.declared.stop.Stop.{Stop}
use Rattle.chl_inputs.specs.declared.stop.Stop.TheVariants as stops
use Rattle.chl_inputs.proofs.ToldChanges.{chained}

-- the named file is the input, at its start
abbrev pub Opens : List ℕ → Contents → Contents → Type 0
Opens name a b = (finite_map.get a.files name ≡ Some b.rest) × (b ≡ opened name b.rest a)

limit_splits : (n : ℕ) → n ≤ input_limit → input_limit ≡ n + (input_limit - n)
limit_splits n within = omega arith

module _ {V : Type 0} (input : Input V) where
  -- an input within the limit is judged as a whole
  within_limit : (bytes : List ℕ) → length bytes ≤ input_limit → value_of input (Some bytes) ≡ input.comes_to bytes
  within_limit bytes within = ap (λ b. cond b (past_limit (input.plain (take input_limit bytes))) (input.comes_to bytes)) (le-ltb _ _ within)

  beyond_limit : (bytes : List ℕ) → input_limit < length bytes → value_of input (Some bytes) ≡ past_limit (input.plain (take input_limit bytes))
  beyond_limit bytes past = ap (λ b. cond b (past_limit (input.plain (take input_limit bytes))) (input.comes_to bytes)) (lt-ltb _ _ past)

  -- how a desk stands after the input that was opened was read in part
  read_part : (prefix piece : List ℕ) (a b c : Contents) → Opens input.name a b → b.rest ≡ prefix ++ (piece ++ c.rest) → c ≡ record b { rest = c.rest } → input.plain prefix ≡ None → length piece ≤ piece_limit → ReadsPart input a c
  read_part prefix piece a b c opens split next none short = record {
    prefix = prefix;
    piece = piece;
    file = opens.0 ∙ ap Some split;
    faultless = none;
    short = short;
    opens = next ∙ ap (λ (x : Contents). record x { rest = c.rest }) opens.1;
  }

  -- and where there was no piece more
  read_prefix : (prefix : List ℕ) (a b c : Contents) → Opens input.name a b → ReadsBytes prefix b c → input.plain prefix ≡ None → ReadsPart input a c
  read_prefix prefix a b c opens read none = read_part prefix [] a b c opens read.0 read.1 none (omega arith)

  -- an input that can't be opened
  not_opened : (fault : DeskFault) (told : Option Contents) → (IsSteady told → fault ≡ calls.Failed → Lacks told input.name) → Tells told told (Conformed (reading input) (Err (opening_stop fault)))
  not_opened fault None lacks = tt
  not_opened calls.NoMemory (Some a) lacks = inl (stops.NoMemory, refl, (inr (inl refl), inl (inr refl, refl)))
  not_opened calls.Failed (Some a) lacks = inl (stops.ReadFailed, refl, (missing a.steady (λ steady. lacks steady refl), inl (inl refl, refl)))
    where
      missing : (steady : Bool) → (IsTrue steady → finite_map.get a.files input.name ≡ None) → MayStop steady stops.ReadFailed (value_at input a.files ≡ Err stops.ReadFailed)
      missing true none = inl (ap (value_of input) (none refl))
      missing false none = inr (inr (refl, false≢true))

-- a stop that is no failed call leaves the count as it is
pub count_stays : (V : Type 0) (stop : Stop) (old new : ℕ) → stop ≢ stops.ReadFailed → new ≡ old → CountsStop {V = V} (Err stop) old new
count_stays V stops.ReadFailed old new none same = absurd (none refl)
count_stays V other old new none same = same

-- how a reading counts, as a stop
pub count_end : (V : Type 0) {F : Type 0} (stop : F → Stop) → ((fault : F) → stop fault ≢ stops.ReadFailed) → (end : ReadEnd F) (old new : ℕ) → CountsReadFailure {T = Unit {0}} (Err end) old new → CountsStop {V = V} (Err (end_stop stop end)) old new
count_end V stop none Failed old new counts = counts
count_end V stop none TooLong old new counts = counts
count_end V stop none NoMemory old new counts = counts
count_end V stop none (Refused fault) old new counts = count_stays V (stop fault) old new (none fault) counts

-- and what it carries
pub once_end : {F : Type 0} (stop : F → Stop) → ((fault : F) → HasMemoryOnce (stop fault)) → (end : ReadEnd F) → HasMemoryOnce (end_stop stop end)
once_end stop once Failed = tt
once_end stop once TooLong = tt
once_end stop once NoMemory = tt
once_end stop once (Refused fault) = once fault

module _ {R V F : Type 0} (refused : R → List ℕ → Option F) (comes_to : R → List ℕ → Result V F) (no_memory : F) (gives : R → List ℕ → Result (Unit {0}) F → R → Type 0) (pieces : (old new : R) (piece : List ℕ) (answer : Result (Unit {0}) F) → gives old piece answer new → TakesPiece refused comes_to no_memory old piece answer new) (lasts : (reader : R) (bytes more : List ℕ) (fault : F) → refused reader bytes ≡ Some fault → StandsAt refused comes_to reader (bytes ++ more) fault) where
  -- after all pieces the reader stands where their bytes have led
  fed : (first last : R) (ps : List (List ℕ)) → TakesAll gives first ps last → (more : List ℕ) → (refused last more ≡ refused first (concat ps ++ more)) × (comes_to last more ≡ comes_to first (concat ps ++ more))
  fed first last [] taken more = (ap (λ r. refused r more) taken, ap (λ r. comes_to r more) taken)
  fed first last (p ∷ ps) taken more =
      let step = (pieces first taken.0 p (Ok tt) taken.2).2 in
      let rest = fed taken.0 last ps taken.3 more in
      let joined : p ++ (concat ps ++ more) ≡ (p ++ concat ps) ++ more = sym (append_assoc p (concat ps) more) in
      (rest.0 ∙ step.refuses (concat ps ++ more) ∙ ap (refused first) joined, rest.1 ∙ step.comes (concat ps ++ more) ∙ ap (comes_to first) joined)

  -- and at no fault, where there was a piece
  at_no_fault : (first last : R) (p : List ℕ) (ps : List (List ℕ)) → TakesAll gives first (p ∷ ps) last → refused last [] ≡ None
  at_no_fault first last p [] taken =
      let step = pieces first taken.0 p (Ok tt) taken.2 in
      ap (λ r. refused r []) taken.3 ∙ step.2.refuses [] ∙ ap (refused first) (append-nil p) ∙ step.1
  at_no_fault first last p (q ∷ ps) taken = at_no_fault taken.0 last q ps taken.3

  -- so what a reader took has none that is plain
  none_yet : (first last : R) (ps : List (List ℕ)) → refused first [] ≡ None → TakesAll gives first ps last → refused first (concat ps) ≡ None
  none_yet first last [] fresh taken = fresh
  none_yet first last (p ∷ ps) fresh taken = ap (refused first) (sym (append-nil (concat (p ∷ ps)))) ∙ sym (fed first last (p ∷ ps) taken []).0 ∙ at_no_fault first last p ps taken

  -- what the reader comes to in the end is what all its bytes come to
  pub came : (first last : R) (old new : Option Contents) (value : V) → HandsOnAll gives input_limit first last old new → comes_to last [] ≡ Ok value → (bytes : List ℕ) × (comes_to first bytes ≡ Ok value)
  came first last old new value all comes = (concat all.pieces ++ [], sym (fed first last all.pieces all.taken []).1 ∙ comes)

  module _ (stop : F → Stop) (want : stop no_memory ≡ stops.NoMemory) (name : List ℕ) (first last : R) (fresh : refused first [] ≡ None) where
    -- the named input
    abbrev the_input : Input V
    the_input = input_from (refused first) (comes_to first) stop name

    -- a fault that is plain within the limit decides, whatever follows
    plain_fault : (prefix rest : List ℕ) (fault : F) → length prefix ≤ input_limit → refused first prefix ≡ Some fault → value_of the_input (Some (prefix ++ rest)) ≡ Err (stop fault)
    plain_fault prefix rest fault within plain = elim (cases_lt input_limit (length (prefix ++ rest))) [
      | inl past ↦
          let room = input_limit - length prefix in
          let cut : take input_limit (prefix ++ rest) ≡ prefix ++ take room rest =
          ap (λ n. take n (prefix ++ rest)) (limit_splits (length prefix) within) ∙ take-append-add prefix rest room in
          beyond_limit the_input (prefix ++ rest) past ∙ ap (λ bytes. past_limit (option_map stop (refused first bytes))) cut ∙ ap (λ o. past_limit (option_map stop o)) (lasts first prefix (take room rest) fault plain).0
      | inr small ↦ within_limit the_input (prefix ++ rest) small ∙ ap (judged stop) (lasts first prefix rest fault plain).1
    ]

    -- and where none is, more bytes than the limit are too many
    too_many : (bytes rest : List ℕ) (further : ℕ) → length bytes ≡ input_limit → refused first bytes ≡ None → value_of the_input (Some (bytes ++ (further ∷ [] ++ rest))) ≡ Err stops.TooLong
    too_many bytes rest further full none =
        let past : input_limit < length (bytes ++ (further ∷ [] ++ rest)) = omega (arith, full, length-append bytes (further ∷ [] ++ rest), length-append (further ∷ []) rest) in
        let cut : take input_limit (bytes ++ (further ∷ [] ++ rest)) ≡ bytes = ap (λ n. take n (bytes ++ (further ∷ [] ++ rest))) (sym full) ∙ take-append_seam bytes (further ∷ [] ++ rest) in
        beyond_limit the_input (bytes ++ (further ∷ [] ++ rest)) past ∙ ap (λ bs. past_limit (option_map stop (refused first bs))) cut ∙ ap (λ o. past_limit (option_map stop o)) none

    faultless : (ps : List (List ℕ)) (at : R) → TakesAll gives first ps at → the_input.plain (concat ps) ≡ None
    faultless ps at taken = ap (option_map stop) (none_yet first at ps fresh taken)

    -- all bytes
    comes_of_all : (ps : List (List ℕ)) → TakesAll gives first ps last → comes_to last [] ≡ comes_to first (concat ps)
    comes_of_all ps taken = (fed first last ps taken []).1 ∙ ap (comes_to first) (append-nil (concat ps))

    module _ (old mid new : Option Contents) (opens : Tells old mid (Opens name)) where
      -- all bytes of the input went to the reader, which then came to a value
      pub read_value : (value : V) → HandsOnAll gives input_limit first last mid new → comes_to last [] ≡ Ok value → Tells old new (Conformed (reading the_input) (Ok value))
      read_value value all comes = chained old mid new opens all.read (λ a b c o r. inr (
        value,
        ap (value_of the_input) (o.0 ∙ ap Some r.0) ∙ within_limit the_input (concat all.pieces) all.within ∙ ap (judged stop) (sym (comes_of_all all.pieces all.taken) ∙ comes),
        (inl refl, r.1 ∙ ap (λ (x : Contents). record x { rest = [] }) o.1),
      ))

      -- or to a fault
      pub read_fault : (fault : F) → HandsOnAll gives input_limit first last mid new → (fault ≡ no_memory) ⊎ (comes_to last [] ≡ Err fault) → Tells old new (Conformed (reading the_input) (Err (stop fault)))
      read_fault fault all why = chained old mid new opens all.read (λ a b c o r. inl (
        stop fault,
        refl,
        (
          elim why [
            | inl memory ↦ inr (inl (ap stop memory ∙ want))
            | inr comes ↦ inl (ap (value_of the_input) (o.0 ∙ ap Some r.0) ∙ within_limit the_input (concat all.pieces) all.within ∙ ap (judged stop) (sym (comes_of_all all.pieces all.taken) ∙ comes))
          ],
          inr (read_prefix the_input (concat all.pieces) a b c o
              (r.0 ∙ sym (append-nil (concat all.pieces)) ∙ ap (λ rest. concat all.pieces ++ rest) (sym (ap (λ (x : Contents). x.rest) r.1)), r.1 ∙ ap (λ rest. record b { rest = rest }) (sym (ap (λ (x : Contents). x.rest) r.1)))
              (faultless all.pieces last all.taken)),
        ),
      ))

      -- what a reading that ends before the input's end says of it
      pub read_end : (end : ReadEnd F) → OnTooLong {T = Unit {0}} (Err end) (PassesLimit gives input_limit first last mid new) → IfRefused {T = Unit {0}} (Err end) (λ fault. HandsOnUntil gives input_limit fault first last mid new) →
          OnFailed {T = Unit {0}} (Err end) (HandsOn gives input_limit first last mid new) → OnNoMemory {T = Unit {0}} (Err end) (HandsOn gives input_limit first last mid new) → (IsSteady mid → OnFailed {T = Unit {0}} (Err end) ⊥) →
          Tells old new (Conformed (reading the_input) (Err (end_stop stop end)))
      read_end Failed long refusal failed memory steady = failed_end old mid new opens failed.read steady
        where
          -- a failed call is none of a steady desk
          failed_end : (old mid new : Option Contents) → Tells old mid (Opens name) → Tells mid new (ReadsBytes (concat failed.pieces)) → (IsSteady mid → ⊥) → Tells old new (Conformed (reading the_input) (Err stops.ReadFailed))
          failed_end None None None opens read steady = tt
          failed_end None None (Some c) opens read steady = read
          failed_end None (Some b) new opens read steady = absurd opens
          failed_end (Some a) None new opens read steady = absurd opens
          failed_end (Some a) (Some b) None opens read steady = read
          failed_end (Some a) (Some b) (Some c) opens read steady = inl (
            stops.ReadFailed,
            refl,
            (
              inr (inr (refl, λ held. steady (subst IsTrue (sym (ap (λ (x : Contents). x.steady) opens.1)) held))),
              inr (read_prefix the_input (concat failed.pieces) a b c opens read (faultless failed.pieces last failed.taken)),
            ),
          )
      read_end TooLong long refusal failed memory steady = chained old mid new opens long.read (λ a b c o r.
          let split : b.rest ≡ concat long.pieces ++ (long.further ∷ [] ++ c.rest) = r.0 ∙ append_assoc (concat long.pieces) (long.further ∷ []) c.rest in
          inl (
            stops.TooLong,
            refl,
            (
              inl (ap (value_of the_input) (o.0 ∙ ap Some split) ∙ too_many (concat long.pieces) c.rest long.further long.full (none_yet first last long.pieces fresh long.taken)),
              inr (read_part the_input (concat long.pieces) (long.further ∷ []) a b c o split r.1 (faultless long.pieces last long.taken) (omega arith)),
            ),
          ))
      read_end NoMemory long refusal failed memory steady = chained old mid new opens memory.read (λ a b c o r. inl (
        stops.NoMemory,
        refl,
        (inr (inl refl), inr (read_prefix the_input (concat memory.pieces) a b c o r (faultless memory.pieces last memory.taken))),
      ))
      read_end (Refused fault) long refusal failed memory steady = chained old mid new opens refusal.read (λ a b c o r. inl (
        stop fault,
        refl,
        (
          elim (pieces refusal.middle last refusal.last (Err fault) refusal.refused).0 [
            | inl no_more ↦ inr (inl (ap stop no_more ∙ want))
            | inr plain ↦ inl (ap (value_of the_input) (o.0 ∙ ap Some r.0)
                ∙ plain_fault (concat refusal.pieces ++ refusal.last) c.rest fault refusal.within (sym (fed first refusal.middle refusal.pieces refusal.taken refusal.last).0 ∙ plain))
          ],
          inr (read_part the_input (concat refusal.pieces) refusal.last a b c o (r.0 ∙ append_assoc (concat refusal.pieces) refusal.last c.rest) r.1 (faultless refusal.pieces refusal.middle refusal.taken) refusal.short),
        ),
      ))

-- a reader that finds such faults and comes to such values reads such an input
pub reads_as : {D V F : Type 0} {desk : Ghosts D} {answer : Result V Stop} {old new : D} (stop : F → Stop) (name : List ℕ) (f g : List ℕ → Option F) (h k : List ℕ → Result V F) → ((bytes : List ℕ) → f bytes ≡ g bytes) → ((bytes : List ℕ) → h bytes ≡ k bytes) → Conforms desk (reading (input_from f h stop name)) answer old new → Conforms desk (reading (input_from g k stop name)) answer old new
reads_as {desk} {answer} {old} {new} stop name f g h k same equal goes =
    subst (λ x. Conforms desk (reading (input_from g x stop name)) answer old new) (fun_ext equal)
    (subst (λ x. Conforms desk (reading (input_from x h stop name)) answer old new) (fun_ext same) goes)
