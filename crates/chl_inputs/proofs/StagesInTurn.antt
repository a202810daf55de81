-- Two stages in turn are a stage.
use Rattle.std.proofs.Common.{◌≡◌, inl, inr, ℕ, [], refl, sym, ap, subst, ◌∙◌}
use Rattle.std.specs.Prelude.{Result, Ok, Err, IfErr}
use Rattle.desk_io.specs.Contents.{Contents, opened}
use Rattle.desk_io.specs.declared.desk.Desk.{Ghosts}
use Rattle.chl_inputs.specs.Inputs.{Input}
use Rattle.chl_inputs.specs.Stages.{Stage, Comes, Works, Reads, reading, in_turn, Conformed, CountsStop, Conforms}
use Rattle.chl_inputs.specs.Stops.{HasMemoryOnce}
use Rattle.chl_inputs.specs.declared.stop.Stop.{Stop}
use Rattle.chl_inputs.specs.declared.stop.Stop.TheVariants.{ReadFailed, NoMemory}
use Rattle.chl_inputs.proofs.ToldChanges.{chained, retold, unchanged}

module _ {V : Type 0} where
  abbrev answer_ok : V → Result V Stop
  answer_ok v = Ok v

  abbrev answer_err : Stop → Result V Stop
  answer_err stop = Err stop

  pub same_value : (v w : V) → answer_ok v ≡ answer_ok w → v ≡ w
  same_value v w e = cc

  pub same_stop_in : (x y : Stop) → answer_err x ≡ answer_err y → x ≡ y
  same_stop_in x y e = cc

  pub no_stop_in : (v : V) (stop : Stop) → answer_ok v ≡ answer_err stop → ⊥
  no_stop_in v stop e = cc

  -- want of memory may come at once
  pub went_lost : (stage : Stage V) (a : Contents) → Conformed stage (Err NoMemory) a a
  went_lost (Comes is) a = (inr refl, refl)
  went_lost (Works P next) a = inl (refl, refl)
  went_lost (Reads input next) a = inl (NoMemory, refl, (inr (inl refl), inl (inr refl, refl)))

module _ {U V : Type 0} where
  went_in_turn : (first : Stage U) (next : U → Stage V) (u : U) (answer : Result V Stop) (a b c : Contents) → Conformed first (Ok u) a b → Conformed (next u) answer b c → Conformed (in_turn first next) answer a c
  went_in_turn (Comes (Ok v)) next u answer a b c (inl is, same) two =
      subst (λ x. Conformed (next v) answer x c) same (subst (λ x. Conformed (next x) answer b c) (same_value u v is) two)
  went_in_turn (Comes (Ok v)) next u answer a b c (inr lost, same) two = absurd (no_stop_in u NoMemory lost)
  went_in_turn (Comes (Err stop)) next u answer a b c (inl is, same) two = absurd (no_stop_in u stop is)
  went_in_turn (Comes (Err stop)) next u answer a b c (inr lost, same) two = absurd (no_stop_in u NoMemory lost)
  went_in_turn (Works P first) next u answer a b c (inl lost) two = absurd (no_stop_in u NoMemory lost.0)
  went_in_turn (Works P first) next u answer a b c (inr one) two = inr (one.0, one.1, went_in_turn (first one.0) next u answer a b c one.2 two)
  went_in_turn (Reads input first) next u answer a b c (inl stopped) two = absurd (no_stop_in u stopped.0 stopped.1)
  went_in_turn (Reads input first) next u answer a b c (inr one) two =
      inr (one.0, one.1, went_in_turn (first one.0) next u answer (opened input.name [] a) b c one.2 two)

  went_stop : (first : Stage U) (next : U → Stage V) (stop : Stop) (a b : Contents) → Conformed first (Err stop) a b → Conformed (in_turn first next) (Err stop) a b
  went_stop (Comes (Ok v)) next stop a b (inl is, same) = absurd (no_stop_in v stop (sym is))
  went_stop (Comes (Ok v)) next stop a b (inr lost, same) =
      subst (λ x. Conformed (next v) (Err stop) a x) (sym same) (subst (λ s. Conformed (next v) (Err s) a a) (sym (same_stop_in stop NoMemory lost)) (went_lost (next v) a))
  went_stop (Comes (Err other)) next stop a b (inl is, same) = (inl (ap Err (same_stop_in stop other is)), same)
  went_stop (Comes (Err other)) next stop a b (inr lost, same) = (inr (ap Err (same_stop_in stop NoMemory lost)), same)
  went_stop (Works P first) next stop a b (inl lost) = inl (ap Err (same_stop_in stop NoMemory lost.0), lost.1)
  went_stop (Works P first) next stop a b (inr one) = inr (one.0, one.1, went_stop (first one.0) next stop a b one.2)
  went_stop (Reads input first) next stop a b (inl stopped) = inl (stopped.0, ap Err (same_stop_in stop stopped.0 stopped.1), stopped.2)
  went_stop (Reads input first) next stop a b (inr one) = inr (one.0, one.1, went_stop (first one.0) next stop (opened input.name [] a) b one.2)

count_stop : (U V : Type 0) (stop : Stop) (old new : ℕ) → CountsStop {V = U} (Err stop) old new → CountsStop {V = V} (Err stop) old new
count_stop U V ReadFailed old new counts = counts
count_stop U V other old new counts = counts

module _ {D U V : Type 0} {desk : Ghosts D} where
  -- one stage that had a value, and then another
  pub goes_in_turn : {first : Stage U} {u : U} {answer : Result V Stop} {old mid new : D} (next : U → Stage V) → Conforms desk first (Ok u) old mid → Conforms desk (next u) answer mid new → Conforms desk (in_turn first next) answer old new
  goes_in_turn {first} {u} {answer} {old} {mid} {new} next one two = record {
    told = chained (desk.told old) (desk.told mid) (desk.told new) one.told two.told (λ a b c x y. went_in_turn first next u answer a b c x y);
    no_file = two.no_file ∙ one.no_file;
    input_count = subst (λ n. CountsStop answer n (desk.input_faults new)) one.input_count two.input_count;
    output_count = two.output_count ∙ one.output_count;
    memory_once = two.memory_once;
  }

  -- one stage that stopped
  pub goes_stop : {first : Stage U} {stop : Stop} {old new : D} (next : U → Stage V) → Conforms desk first (Err stop) old new → Conforms desk (in_turn first next) (Err stop) old new
  goes_stop {first} {stop} {old} {new} next one = record {
    told = retold (desk.told old) (desk.told new) one.told (λ a b x. went_stop first next stop a b x);
    no_file = one.no_file;
    input_count = count_stop U V stop (desk.input_faults old) (desk.input_faults new) one.input_count;
    output_count = one.output_count;
    memory_once = one.memory_once;
  }

  -- work that came to something
  pub goes_works : {P : U → Type 0} {next : U → Stage V} {answer : Result V Stop} {old new : D} (u : U) → P u → Conforms desk (next u) answer old new → Conforms desk (Works P next) answer old new
  goes_works u p rest = record {
    told = retold (desk.told _) (desk.told _) rest.told (λ a b x. inr (u, p, x));
    no_file = rest.no_file;
    input_count = rest.input_count;
    output_count = rest.output_count;
    memory_once = rest.memory_once;
  }

  -- the same where the first stage is the reading of an input
  pub goes_reads : {input : Input U} {next : U → Stage V} {u : U} {answer : Result V Stop} {old mid new : D} → Conforms desk (reading input) (Ok u) old mid → Conforms desk (next u) answer mid new → Conforms desk (Reads input next) answer old new
  goes_reads {next} one two = goes_in_turn next one two

  pub goes_reads_stop : {input : Input U} {next : U → Stage V} {stop : Stop} {old new : D} → Conforms desk (reading input) (Err stop) old new → Conforms desk (Reads input next) (Err stop) old new
  goes_reads_stop {next} one = goes_stop next one

module _ {D V : Type 0} {desk : Ghosts D} where
  -- a stage that comes to a value
  pub goes_comes : {is answer : Result V Stop} {at : D} → answer ≡ is → IfErr answer HasMemoryOnce → CountsStop answer (desk.input_faults at) (desk.input_faults at) → Conforms desk (Comes is) answer at at
  goes_comes {is} {answer} {at} same once counts = record {
    told = unchanged (Conformed (Comes is) answer) (desk.told at) (λ a. (inl same, refl));
    no_file = refl;
    input_count = counts;
    output_count = refl;
    memory_once = once;
  }

  -- want of memory
  pub goes_lost : {at : D} (stage : Stage V) → Conforms desk stage (Err NoMemory) at at
  goes_lost {at} stage = record {
    told = unchanged (Conformed stage (Err NoMemory)) (desk.told at) (went_lost stage);
    no_file = refl;
    input_count = refl;
    output_count = refl;
    memory_once = tt;
  }
