-- What the way in which a command ends says of its bytes, its inputs and its files.
use Rattle.std.proofs.Common.{◌≡◌, ◌≢◌, ◌⊎◌, inl, inr, ℕ, Bool, true, false, cond, List, take, refl, sym, ap, subst, ◌∙◌, IsTrue}
use Rattle.std.specs.Prelude.{Option, Some, None, Result, Ok, Err}
use Rattle.std.specs.FinMap as finite_map
use Rattle.std.specs.Cmp.Lexicographic.{slice_cmp, nat_list_cmp_total}
use Rattle.std.specs.FinMap.{get-insert, slice_cmp-IsAntisymmetric, nat_cmp-IsAntisymmetric}
use Rattle.std.specs.Ordering.{nat_cmp, eq_by_cmp, is_eq}
use Rattle.std.specs.declared.cmp.Ordering.{Ordering}
use Rattle.std.specs.declared.cmp.Ordering.TheVariants.{Less, Equal, Greater}
use Rattle.desk_io.specs.Contents.{Contents, Tells, IsSteady}
use Rattle.chl_inputs.specs.Stages.{OpensInOrder, Conformed}
use Rattle.chl_inputs.specs.declared.stop.Stop.{Stop}
use Rattle.chl_inputs.specs.declared.stop.Stop.TheVariants as stops
use Rattle.chl_inputs.proofs.StageLaws.{all_in_order, in_order_files, in_order_steady, went_decided, went_read, went_stopped, went_opens}
use Rattle.chl_inputs.proofs.ToldChanges.{chained, retold}
use Rattle.chl_answers.specs.Commands.{Decides, stage_of, place_of}
use Rattle.chl_answers.specs.Outcome.{Ends, Gives, GivesPrefix, GivesPart, Stops, given, HasInputsOf, OpensNoOther, ChangesNoOther}
use Rattle.chl_answers.specs.Statuses.{status_of, status_after}
use Rattle.chl_answers.specs.declared.status.Status.{Status}
use Rattle.chl_answers.specs.declared.status.Status.TheVariants.{Done, Differs, Usage, GraphText, OrderText, PairsText, IndexBytes, Overflow, ReadFault, WriteFault, NoMemory, NotOfGraph, TooLong, NoVias, Broken, EditsText, PointsText, FromText}
use Rattle.chl_words.specs.declared.asked.Asked.{Asked}
use Rattle.chl_answers.proofs.Decisions.{decides_one_status}

-- the stop of which a status tells, if it tells of one
abbrev stop_in : Status → Option Stop
stop_in Done = None
stop_in (Differs audit) = Some (stops.Differs audit)
stop_in Usage = None
stop_in (GraphText fault) = Some (stops.Graph fault)
stop_in (OrderText fault) = Some (stops.Order fault)
stop_in (PairsText fault) = Some (stops.Pairs fault)
stop_in (IndexBytes fault) = Some (stops.Index fault)
stop_in (Overflow v hub) = Some (stops.Overflow v hub)
stop_in ReadFault = Some stops.ReadFailed
stop_in WriteFault = None
stop_in NoMemory = Some stops.NoMemory
stop_in (NotOfGraph fault) = Some (stops.NotOfGraph fault)
stop_in TooLong = Some stops.TooLong
stop_in NoVias = Some stops.NoVias
stop_in (Broken at hub) = Some (stops.Broken at hub)
stop_in (EditsText fault) = Some (stops.Edits fault)
stop_in (PointsText fault) = Some (stops.Points fault)
stop_in (FromText fault) = Some (stops.From fault)

stop_told : (stop : Stop) → stop_in (status_of stop) ≡ Some stop
stop_told (stops.Graph fault) = refl
stop_told (stops.Overflow v hub) = refl
stop_told (stops.Order fault) = refl
stop_told (stops.Pairs fault) = refl
stop_told (stops.Points fault) = refl
stop_told (stops.From fault) = refl
stop_told (stops.Edits fault) = refl
stop_told (stops.Index fault) = refl
stop_told (stops.Differs audit) = refl
stop_told (stops.NotOfGraph fault) = refl
stop_told stops.NoVias = refl
stop_told (stops.Broken at hub) = refl
stop_told stops.TooLong = refl
stop_told stops.ReadFailed = refl
stop_told stops.NoMemory = refl

-- so a status tells of one stop at most
same_stop : (x y : Stop) → status_of x ≡ status_of y → x ≡ y
same_stop x y e = let told : Some x ≡ Some y = sym (stop_told x) ∙ ap stop_in e ∙ stop_told y in cc

no_stop : (stop : Stop) (status : Status) → stop_in status ≡ None → status ≡ status_of stop → ⊥
no_stop stop status none e = let told : Some stop ≡ None = sym (stop_told stop) ∙ ap stop_in (sym e) ∙ none in cc

-- what giving bytes leaves as it is
given_inputs : (place : Option (List ℕ)) (bytes : List ℕ) (a : Contents) → HasInputsOf a (given place bytes a)
given_inputs None bytes a = record { earlier = refl; last = refl; rest = refl }
given_inputs (Some out) bytes a = record { earlier = refl; last = refl; rest = refl }

given_steady : (place : Option (List ℕ)) (bytes : List ℕ) (a : Contents) → (given place bytes a).steady ≡ a.steady
given_steady None bytes a = refl
given_steady (Some out) bytes a = refl

-- what stands at another name after a file was put
is_equal : (r : Ordering) → is_eq r ≡ true → r ≡ Equal
is_equal Less e = absurd cc
is_equal Equal e = refl
is_equal Greater e = absurd cc

get_other : (b : Bool) (o p : Option (List ℕ)) → (b ≡ true → ⊥) → cond b o p ≡ p
get_other true o p other = absurd (other refl)
get_other false o p other = refl

get-insert_other : (files : finite_map.FinMap (slice_cmp nat_cmp) (List ℕ)) (out name bytes : List ℕ) → (out ≡ name → ⊥) → finite_map.get (finite_map.insert files out bytes) name ≡ finite_map.get files name
get-insert_other files out name bytes other =
    get-insert nat_list_cmp_total files out bytes name
    ∙ get_other (eq_by_cmp (slice_cmp nat_cmp) name out) (Some bytes) (finite_map.get files name) (λ same. other (sym (slice_cmp-IsAntisymmetric nat_cmp-IsAntisymmetric name out (is_equal (slice_cmp nat_cmp name out) same))))

given_others : (place : Option (List ℕ)) (bytes name : List ℕ) (a : Contents) → place ≢ Some name → finite_map.get (given place bytes a).files name ≡ finite_map.get a.files name
given_others None bytes name a other = refl
given_others (Some out) bytes name a other = get-insert_other a.files out name bytes (λ same. other (ap Some same))

module _ (asked : Asked) (status : Status) (a b : Contents) where
  -- a prefix of the bytes that were given
  prefix_of : (x : Contents) (bytes : List ℕ) (P : Contents → Type 0) → P x → ((k : ℕ) → P (given (place_of asked) (take k bytes) x)) → GivesPrefix (place_of asked) bytes x b → P b
  prefix_of x bytes P none some (inl same) = subst P (sym same) none
  prefix_of x bytes P none some (inr prefix) = subst P (sym prefix.1) (some prefix.0)

  -- a fact of all that is reached as inputs are opened in order, and then bytes are given
  reached : (P : Contents → Type 0) → ((x : Contents) → OpensInOrder (stage_of asked) a x → P x) → ((x : Contents) (bytes : List ℕ) → OpensInOrder (stage_of asked) a x → P (given (place_of asked) bytes x)) → Ends asked status a b → P b
  reached P read gave (inl done) = subst P (sym done.1.gives) (gave done.1.read done.1.bytes (all_in_order (stage_of asked) a done.1.read done.1.reads))
  reached P read gave (inr (inl failed)) =
      let part = failed.1 in
      let opens = all_in_order (stage_of asked) a part.read part.reads in
      prefix_of part.read part.bytes P (read part.read opens) (λ k. gave part.read (take k part.bytes) opens) part.gives
  reached P read gave (inr (inr (inl lost))) =
      let part = lost.1 in
      let opens = all_in_order (stage_of asked) a part.read part.reads in
      prefix_of part.read part.bytes P (read part.read opens) (λ k. gave part.read (take k part.bytes) opens) part.gives
  reached P read gave (inr (inr (inr stopped))) = read b (went_opens (stage_of asked) (Err stopped.0) a b stopped.2.unread)

  ends_done : Ends asked status a b → status ≡ Done → Gives asked a b
  ends_done (inl done) is = done.1
  ends_done (inr (inl failed)) is = absurd (let e = sym failed.0 ∙ is in cc)
  ends_done (inr (inr (inl lost))) is = absurd (let e = sym lost.0 ∙ is in cc)
  ends_done (inr (inr (inr stopped))) is = absurd (no_stop stopped.0 Done refl (sym is ∙ stopped.1))

  ends_stopped : Ends asked status a b → (stop : Stop) → status ≡ status_of stop → status ≢ NoMemory → Stops asked stop a b
  ends_stopped (inl done) stop is memory = absurd (no_stop stop Done refl (sym done.0 ∙ is))
  ends_stopped (inr (inl failed)) stop is memory = absurd (no_stop stop WriteFault refl (sym failed.0 ∙ is))
  ends_stopped (inr (inr (inl lost))) stop is memory = absurd (memory lost.0)
  ends_stopped (inr (inr (inr stopped))) stop is memory =
      subst (λ s. Stops asked s a b) (same_stop stopped.0 stop (sym stopped.1 ∙ is)) stopped.2

  ends_decided : Ends asked status a b → (answer : Result (List ℕ) Stop) → Decides asked a.files answer → (status ≡ status_after answer) ⊎ (status ≡ NoMemory) ⊎ (((status ≡ ReadFault) ⊎ (status ≡ WriteFault)) × ¬ (IsTrue a.steady))
  ends_decided (inl done) answer decides = inl (done.0 ∙ decides_one_status asked a.files (Ok done.1.bytes) answer done.1.decided decides)
  ends_decided (inr (inl failed)) answer decides = inr (inr (inr failed.0, failed.2))
  ends_decided (inr (inr (inl lost))) answer decides = inr (inl lost.0)
  ends_decided (inr (inr (inr stopped))) answer decides = elim stopped.2.cause [
    | inl decided ↦ inl (stopped.1 ∙ decides_one_status asked a.files (Err stopped.0) answer decided decides)
    | inr (inl memory) ↦ inr (inl (stopped.1 ∙ ap status_of memory))
    | inr (inr failed) ↦ inr (inr (inl (stopped.1 ∙ ap status_of failed.0), failed.1))
  ]

  ends_failed : Ends asked status a b → status ≡ WriteFault → GivesPart asked a b × ¬ (IsTrue a.steady)
  ends_failed (inl done) is = absurd (let e = sym done.0 ∙ is in cc)
  ends_failed (inr (inl failed)) is = (failed.1, failed.2)
  ends_failed (inr (inr (inl lost))) is = absurd (let e = sym lost.0 ∙ is in cc)
  ends_failed (inr (inr (inr stopped))) is = absurd (no_stop stopped.0 WriteFault refl (sym is ∙ stopped.1))

  ends_lost : Ends asked status a b → status ≡ NoMemory → OpensInOrder (stage_of asked) a b ⊎ GivesPart asked a b
  ends_lost (inl done) is = absurd (let e = sym done.0 ∙ is in cc)
  ends_lost (inr (inl failed)) is = absurd (let e = sym failed.0 ∙ is in cc)
  ends_lost (inr (inr (inl lost))) is = inr lost.1
  ends_lost (inr (inr (inr stopped))) is = inl (went_opens (stage_of asked) (Err stopped.0) a b stopped.2.unread)

  ends_opens : Ends asked status a b → OpensNoOther asked a b
  ends_opens = reached (λ x. OpensNoOther asked a x)
      (λ x opens. (x, opens, record { earlier = refl; last = refl; rest = refl }))
      (λ x bytes opens. (x, opens, given_inputs (place_of asked) bytes x))

  ends_files : Ends asked status a b → ChangesNoOther asked a b
  ends_files = reached (λ x. ChangesNoOther asked a x)
      (λ x opens name other. ap (λ f. finite_map.get f name) (in_order_files (stage_of asked) a x opens))
      (λ x bytes opens name other. given_others (place_of asked) bytes name x other ∙ ap (λ f. finite_map.get f name) (in_order_files (stage_of asked) a x opens))

  ends_steady : Ends asked status a b → b.steady ≡ a.steady
  ends_steady = reached (λ x. x.steady ≡ a.steady)
      (λ x opens. in_order_steady (stage_of asked) a x opens)
      (λ x bytes opens. given_steady (place_of asked) bytes x ∙ in_order_steady (stage_of asked) a x opens)

-- the bytes of a stage that had all its values were given
pub done_from : (asked : Asked) (bytes : List ℕ) (old mid new : Option Contents) → Tells old mid (Conformed (stage_of asked) (Ok bytes)) → Tells mid new (λ a b. b ≡ given (place_of asked) bytes a) → Tells old new (Ends asked Done)
done_from asked bytes old mid new made gave = chained old mid new made gave (λ a b c went is. inl (
  refl,
  record { bytes = bytes; decided = went_decided (stage_of asked) bytes a b went; read = b; reads = went_read (stage_of asked) bytes a b went; gives = is },
))

part_from : (asked : Asked) (bytes : List ℕ) (a b c : Contents) → Conformed (stage_of asked) (Ok bytes) a b → GivesPrefix (place_of asked) bytes b c → GivesPart asked a c
part_from asked bytes a b c went prefix = record { bytes = bytes; decided = went_decided (stage_of asked) bytes a b went; read = b; reads = went_read (stage_of asked) bytes a b went; gives = prefix }

-- a writing that failed ends the command so, on a desk that is not steady
pub failed_from : (asked : Asked) (bytes : List ℕ) (old mid new : Option Contents) → Tells old mid (Conformed (stage_of asked) (Ok bytes)) → Tells mid new (GivesPrefix (place_of asked) bytes) → (IsSteady mid → ⊥) → Tells old new (Ends asked WriteFault)
failed_from asked bytes None None None made prefix steady = tt
failed_from asked bytes None None (Some c) made prefix steady = prefix
failed_from asked bytes None (Some b) new made prefix steady = absurd made
failed_from asked bytes (Some a) None new made prefix steady = absurd made
failed_from asked bytes (Some a) (Some b) None made prefix steady = prefix
failed_from asked bytes (Some a) (Some b) (Some c) made prefix steady =
    let kept = in_order_steady (stage_of asked) a b (went_opens (stage_of asked) (Ok bytes) a b made) in
    inr (inl (refl, part_from asked bytes a b c made prefix, λ held. steady (subst IsTrue (sym kept) held)))

-- and one for which memory ran out so
pub lost_from : (asked : Asked) (bytes : List ℕ) (old mid new : Option Contents) → Tells old mid (Conformed (stage_of asked) (Ok bytes)) → Tells mid new (GivesPrefix (place_of asked) bytes) → Tells old new (Ends asked NoMemory)
lost_from asked bytes old mid new made prefix = chained old mid new made prefix (λ a b c went part. inr (inr (inl (refl, part_from asked bytes a b c went part))))

-- a command without output ends so
pub stopped_from : (asked : Asked) (stop : Stop) (status : Status) (old new : Option Contents) → status ≡ status_of stop → Tells old new (Conformed (stage_of asked) (Err stop)) → Tells old new (Ends asked status)
stopped_from asked stop status old new is told = retold old new told (λ a b went. inr (inr (inr (
  stop,
  is,
  record { cause = went_stopped (stage_of asked) stop a b went; unread = went },
))))

-- what a desk tells
module _ (old new : Option Contents) (asked : Asked) (status : Status) (ends : Tells old new (Ends asked status)) where
  pub told_done : status ≡ Done → Tells old new (Gives asked)
  told_done is = retold old new ends (λ a b e. ends_done asked status a b e is)

  pub told_stopped : (stop : Stop) → status ≡ status_of stop → status ≢ NoMemory → Tells old new (Stops asked stop)
  told_stopped stop is memory = retold old new ends (λ a b e. ends_stopped asked status a b e stop is memory)

  pub told_decided : (answer : Result (List ℕ) Stop) → Tells old new (λ a b. Decides asked a.files answer → (status ≡ status_after answer) ⊎ (status ≡ NoMemory) ⊎ (((status ≡ ReadFault) ⊎ (status ≡ WriteFault)) × ¬ (IsTrue a.steady)))
  told_decided answer = retold old new ends (λ a b e. ends_decided asked status a b e answer)

  pub told_failed : status ≡ WriteFault → Tells old new (λ a b. GivesPart asked a b × ¬ (IsTrue a.steady))
  told_failed is = retold old new ends (λ a b e. ends_failed asked status a b e is)

  pub told_lost : status ≡ NoMemory → Tells old new (λ a b. OpensInOrder (stage_of asked) a b ⊎ GivesPart asked a b)
  told_lost is = retold old new ends (λ a b e. ends_lost asked status a b e is)

  pub told_opens : Tells old new (OpensNoOther asked)
  told_opens = retold old new ends (λ a b e. ends_opens asked status a b e)

  pub told_files : Tells old new (ChangesNoOther asked)
  told_files = retold old new ends (λ a b e. ends_files asked status a b e)

  pub told_steady : Tells old new (λ a b. b.steady ≡ a.steady)
  told_steady = retold old new ends (λ a b e. ends_steady asked status a b e)
