-- What follows of a stage from the way it went, and when the files decide one thing of it.
use Rattle.std.proofs.Common.{◌≡◌, inl, inr, Bool, [], refl, sym, ap, subst, ◌∙◌}
use Rattle.std.specs.Prelude.{Result, Ok, Err}
use Rattle.desk_io.specs.Contents.{Contents, Files, opened}
use Rattle.chl_inputs.specs.Inputs.{value_at}
use Rattle.chl_inputs.specs.Stages.{Stage, Comes, Works, Reads, After, Decided, Conformed, ReadsAll, OpensInOrder}
use Rattle.chl_inputs.specs.Stops.{MayStop}
use Rattle.chl_inputs.specs.declared.stop.Stop.{Stop}
use Rattle.chl_inputs.specs.declared.stop.Stop.TheVariants.{NoMemory}
use Rattle.chl_inputs.proofs.StagesInTurn.{same_stop_in, no_stop_in}

-- a stop that is decided after one that is
may_stop : (steady : Bool) (stop : Stop) {P Q : Type 0} → (P → Q) → MayStop steady stop P → MayStop steady stop Q
may_stop steady stop h (inl decided) = inl (h decided)
may_stop steady stop h (inr other) = inr other

module _ {U V : Type 0} where
  -- after a value, and where there is none
  pub after_value : (r : Result U Stop) (u : U) (answer : Result V Stop) (P : U → Type 0) → r ≡ Ok u → P u → After r answer P
  after_value r u answer P is p = subst (λ r. After r answer P) (sym is) p

  after_stop : (r : Result U Stop) (stop : Stop) (answer : Result V Stop) (P : U → Type 0) → answer ≡ Err stop → r ≡ Err stop → After r answer P
  after_stop r stop answer P same is = subst (λ r. After r answer P) (sym is) same

  after_always : (r : Result U Stop) (P : U → Result V Stop → Type 0) → ((u : U) → r ≡ Ok u → (answer : Result V Stop) × P u answer) → (answer : Result V Stop) × After r answer (λ u. P u answer)
  after_always (Ok u) P h = h u refl
  after_always (Err stop) P h = (Err stop, refl)

  after_once : (r : Result U Stop) (P : U → Result V Stop → Type 0) → ((u : U) → r ≡ Ok u → (x y : Result V Stop) → P u x → P u y → x ≡ y) → (x y : Result V Stop) → After r x (λ u. P u x) → After r y (λ u. P u y) → x ≡ y
  after_once (Ok u) P h x y first second = h u refl x y first second
  after_once (Err stop) P h x y first second = first ∙ sym second

  -- what is after an input, told in other words that hold of its value
  pub after_told : (r : Result U Stop) (answer : Result V Stop) (P Q : U → Type 0) → ((u : U) → r ≡ Ok u → P u → Q u) → After r answer P → After r answer Q
  after_told (Ok u) answer P Q h after = h u refl after
  after_told (Err stop) answer P Q h after = after

  -- after an input with a value
  pub after_ok : (r : Result U Stop) (v : V) (P : U → Type 0) → After r (Ok v) P → (u : U) × (r ≡ Ok u) × P u
  after_ok (Ok u) v P after = (u, refl, after)
  after_ok (Err stop) v P after = absurd (no_stop_in v stop after)

module _ {V : Type 0} where
  -- a stage with a value: the files decide that, and all inputs were read
  pub went_decided : (stage : Stage V) (v : V) (a b : Contents) → Conformed stage (Ok v) a b → Decided stage a.files (Ok v)
  went_decided (Comes is) v a b (inl same, _) = same
  went_decided (Comes is) v a b (inr lost, _) = absurd (no_stop_in v NoMemory lost)
  went_decided (Works P next) v a b (inl lost) = absurd (no_stop_in v NoMemory lost.0)
  went_decided (Works P next) v a b (inr one) = (one.0, one.1, went_decided (next one.0) v a b one.2)
  went_decided (Reads input next) v a b (inl stopped) = absurd (no_stop_in v stopped.0 stopped.1)
  went_decided (Reads input next) v a b (inr one) =
      after_value (value_at input a.files) one.0 (Ok v) (λ u. Decided (next u) a.files (Ok v)) one.1 (went_decided (next one.0) v (opened input.name [] a) b one.2)

  pub went_read : (stage : Stage V) (v : V) (a b : Contents) → Conformed stage (Ok v) a b → ReadsAll stage a b
  went_read (Comes is) v a b went = went.1
  went_read (Works P next) v a b (inl lost) = absurd (no_stop_in v NoMemory lost.0)
  went_read (Works P next) v a b (inr one) = (one.0, one.1, went_read (next one.0) v a b one.2)
  went_read (Reads input next) v a b (inl stopped) = absurd (no_stop_in v stopped.0 stopped.1)
  went_read (Reads input next) v a b (inr one) = (one.0, one.1, went_read (next one.0) v (opened input.name [] a) b one.2)

  -- one without: the files decide it, but for want of memory and a failed call
  pub went_stopped : (stage : Stage V) (stop : Stop) (a b : Contents) → Conformed stage (Err stop) a b → MayStop a.steady stop (Decided stage a.files (Err stop))
  went_stopped (Comes is) stop a b (inl same, _) = inl same
  went_stopped (Comes is) stop a b (inr lost, _) = inr (inl (same_stop_in {V = V} stop NoMemory lost))
  went_stopped (Works P next) stop a b (inl lost) = inr (inl (same_stop_in {V = V} stop NoMemory lost.0))
  went_stopped (Works P next) stop a b (inr one) = may_stop a.steady stop (λ d. (one.0, one.1, d)) (went_stopped (next one.0) stop a b one.2)
  went_stopped (Reads input next) stop a b (inl stopped) =
      let same = same_stop_in {V = V} stop stopped.0 stopped.1 in
      subst (λ s. MayStop a.steady s (Decided (Reads input next) a.files (Err s))) (sym same)
      (may_stop a.steady stopped.0 (λ is. after_stop (value_at input a.files) stopped.0 (Err stopped.0) (λ u. Decided (next u) a.files (Err stopped.0)) refl is) stopped.2.0)
  went_stopped (Reads input next) stop a b (inr one) =
      may_stop a.steady stop (λ d. after_value (value_at input a.files) one.0 (Err stop) (λ u. Decided (next u) a.files (Err stop)) one.1 d) (went_stopped (next one.0) stop (opened input.name [] a) b one.2)

  -- either way the inputs were opened in order
  pub went_opens : (stage : Stage V) (answer : Result V Stop) (a b : Contents) → Conformed stage answer a b → OpensInOrder stage a b
  went_opens (Comes is) answer a b went = went.1
  went_opens (Works P next) answer a b (inl lost) = inl lost.1
  went_opens (Works P next) answer a b (inr one) = inr (one.0, one.1, went_opens (next one.0) answer a b one.2)
  went_opens (Reads input next) answer a b (inl stopped) = elim stopped.2.1 [ inl none ↦ inl none.1 | inr part ↦ inr (inl part) ]
  went_opens (Reads input next) answer a b (inr one) = inr (inr (one.0, one.1, went_opens (next one.0) answer (opened input.name [] a) b one.2))

  pub all_in_order : (stage : Stage V) (a b : Contents) → ReadsAll stage a b → OpensInOrder stage a b
  all_in_order (Comes is) a b same = same
  all_in_order (Works P next) a b all = inr (all.0, all.1, all_in_order (next all.0) a b all.2)
  all_in_order (Reads input next) a b all = inr (inr (all.0, all.1, all_in_order (next all.0) (opened input.name [] a) b all.2))

  pub none_yet : (stage : Stage V) (a : Contents) → OpensInOrder stage a a
  none_yet (Comes is) a = refl
  none_yet (Works P next) a = inl refl
  none_yet (Reads input next) a = inl refl

  -- what reading leaves as it is
  pub in_order_files : (stage : Stage V) (a b : Contents) → OpensInOrder stage a b → b.files ≡ a.files
  in_order_files (Comes is) a b same = ap (λ (x : Contents). x.files) same
  in_order_files (Works P next) a b (inl same) = ap (λ (x : Contents). x.files) same
  in_order_files (Works P next) a b (inr one) = in_order_files (next one.0) a b one.2
  in_order_files (Reads input next) a b (inl same) = ap (λ (x : Contents). x.files) same
  in_order_files (Reads input next) a b (inr (inl part)) = ap (λ (x : Contents). x.files) part.opens
  in_order_files (Reads input next) a b (inr (inr one)) = in_order_files (next one.0) (opened input.name [] a) b one.2

  pub in_order_steady : (stage : Stage V) (a b : Contents) → OpensInOrder stage a b → b.steady ≡ a.steady
  in_order_steady (Comes is) a b same = ap (λ (x : Contents). x.steady) same
  in_order_steady (Works P next) a b (inl same) = ap (λ (x : Contents). x.steady) same
  in_order_steady (Works P next) a b (inr one) = in_order_steady (next one.0) a b one.2
  in_order_steady (Reads input next) a b (inl same) = ap (λ (x : Contents). x.steady) same
  in_order_steady (Reads input next) a b (inr (inl part)) = ap (λ (x : Contents). x.steady) part.opens
  in_order_steady (Reads input next) a b (inr (inr one)) = in_order_steady (next one.0) (opened input.name [] a) b one.2

  -- whatever is worked out has something
  abbrev pub Answerable : Stage V → Files → Type 0
  Answerable (Comes is) files = Unit {0}
  Answerable (Works {U} P next) files = (u : U) × P u × Answerable (next u) files
  Answerable (Reads {U} input next) files = (u : U) → value_at input files ≡ Ok u → Answerable (next u) files

  -- so the files decide something
  pub decided_always : (stage : Stage V) (files : Files) → Answerable stage files → (answer : Result V Stop) × Decided stage files answer
  decided_always (Comes is) files has = (is, refl)
  decided_always (Works P next) files has = let rest = decided_always (next has.0) files has.2 in (rest.0, (has.0, has.1, rest.1))
  decided_always (Reads input next) files has = after_always (value_at input files) (λ u answer. Decided (next u) files answer) (λ u is. decided_always (next u) files (has u is))

  -- whatever is worked out is one thing
  abbrev pub Determined : Stage V → Files → Type 0
  Determined (Comes is) files = Unit {0}
  Determined (Works {U} P next) files = ((u w : U) → P u → P w → u ≡ w) × ((u : U) → P u → Determined (next u) files)
  Determined (Reads {U} input next) files = (u : U) → value_at input files ≡ Ok u → Determined (next u) files

  -- so the files decide one thing
  pub decided_once : (stage : Stage V) (files : Files) → Determined stage files → (x y : Result V Stop) → Decided stage files x → Decided stage files y → x ≡ y
  decided_once (Comes is) files one x y first second = first ∙ sym second
  decided_once (Works P next) files one x y first second =
      decided_once (next first.0) files (one.1 first.0 first.1) x y first.2 (subst (λ u. Decided (next u) files y) (one.0 second.0 first.0 second.1 first.1) second.2)
  decided_once (Reads input next) files one x y first second = after_once (value_at input files) (λ u answer. Decided (next u) files answer) (λ u is. decided_once (next u) files (one u is)) x y first second
