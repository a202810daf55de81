-- What was seen of chains, after one more visit and one more put.
use Rattle.std.proofs.Common.{◌≡◌, ◌≢◌, inl, ℕ, ◌<◌, ◌≤◌, Bool, true, false, eq-eqb, eqb-true, ne_eqb, List, [], ◌∷◌, ◌++◌, All, length, refl, sym, ap, subst, ◌∙◌, arith}
use Rattle.std.specs.Prelude.{reverse, nat_eq, nat_lt, if◌then◌else◌}
use Rattle.std.proofs.lemmas.Bool.{le-ltb, lt-ltb}
use Rattle.std.proofs.lemmas.List.{append_assoc, length-append, map-append, reverse-append}
use Rattle.std.proofs.lemmas.List.Elements.{All-cons, All-weaker, All-head, All-tail}
use Rattle.walk_laws.specs.declared.entry.Entry.{Entry}
use Rattle.hub_index.specs.Views.{StandsIn}
use Rattle.hub_index.proofs.FoundRows.{StandsIn-self, StandsIn-after}
use Rattle.label_pool.specs.declared.rule.Linked.{Linked}
use Rattle.label_pool.specs.declared.rule.Look.{Look}
use Rattle.label_pool.specs.Chains.{IsTailOf, entries_of, seen_of}
use Rattle.pool_view.specs.Seen.{last_found, first_entry, put_since, seen_chain, IsSeen}

-- a chain that was found at the node v
abbrev pub look_at : ℕ → List Linked → Look
look_at v found = record { node = v; found = found }

pub mark-here : (v : ℕ) (found : List Linked) (marks : List Look) → seen_of (look_at v found ∷ marks) v ≡ found
mark-here v found marks = ap (λ t. if t then found else seen_of marks v) (eq-eqb v v refl)

pub mark-else : (v u : ℕ) (found : List Linked) (marks : List Look) → v ≢ u → seen_of (look_at v found ∷ marks) u ≡ seen_of marks u
mark-else v u found marks other = ap (λ t. if t then found else seen_of marks u) (ne_eqb v u other)

pub last-here : (v : ℕ) (found : List Linked) (looks : List Look) → last_found (looks ++ look_at v found ∷ []) v ≡ found
last-here v found looks = ap (λ xs. seen_of xs v) (reverse-append looks (look_at v found ∷ [])) ∙ mark-here v found (reverse looks)

pub last-else : (v u : ℕ) (found : List Linked) (looks : List Look) → v ≢ u → last_found (looks ++ look_at v found ∷ []) u ≡ last_found looks u
last-else v u found looks other = ap (λ xs. seen_of xs u) (reverse-append looks (look_at v found ∷ [])) ∙ mark-else v u found (reverse looks) other

-- no mark at v is longer
abbrev Short : ℕ → ℕ → Look → Type 0
Short v n m = m.node ≡ v → length m.found ≤ n

since-over : (v n : ℕ) (m : Look) (marks : List Look) → Short v n m → put_since (m ∷ marks) v n ≡ put_since marks v n
since-over v n m marks short = by_node (nat_eq m.node v) refl
  where
    by_node : (t : Bool) → nat_eq m.node v ≡ t → (if t then (if nat_lt n (length m.found) then first_entry m.found (put_since marks v n) else put_since marks v n) else put_since marks v n) ≡ put_since marks v n
    by_node true is = ap (λ t. if t then first_entry m.found (put_since marks v n) else put_since marks v n) (le-ltb n (length m.found) (short (eqb-true m.node v is)))
    by_node false is = refl

since-none : (v n : ℕ) (marks : List Look) → All (Short v n) marks → put_since marks v n ≡ []
since-none v n [] all = refl
since-none v n (m ∷ marks) all = since-over v n m marks (All-head (Short v n) m marks all) ∙ since-none v n marks (All-tail (Short v n) m marks all)

since-here : (v n : ℕ) (l : Linked) (older : List Linked) (marks : List Look) → n < length (l ∷ older) → put_since (look_at v (l ∷ older) ∷ marks) v n ≡ l.entry ∷ put_since marks v n
since-here v n l older marks longer =
    ap (λ t. if t then (if nat_lt n (length (l ∷ older)) then l.entry ∷ put_since marks v n else put_since marks v n) else put_since marks v n) (eq-eqb v v refl)
    ∙ ap (λ t. if t then l.entry ∷ put_since marks v n else put_since marks v n) (lt-ltb n (length (l ∷ older)) longer)

since-else : (v u n : ℕ) (found : List Linked) (marks : List Look) → v ≢ u → put_since (look_at v found ∷ marks) u n ≡ put_since marks u n
since-else v u n found marks other = ap (λ t. if t then (if nat_lt n (length found) then first_entry found (put_since marks u n) else put_since marks u n) else put_since marks u n) (ne_eqb v u other)

tail-length : (tail whole : List Linked) → IsTailOf tail whole → length tail ≤ length whole
tail-length tail whole t = let a = ap length t.parted ∙ length-append t.prefix tail in omega arith

pub tail-entries : (tail whole : List Linked) (list : List Entry) → IsTailOf tail whole → StandsIn list (entries_of tail) → StandsIn list (entries_of whole)
tail-entries tail whole list t stands =
    subst (StandsIn list) (sym (ap entries_of t.parted ∙ map-append (λ l. l.entry) t.prefix tail)) (StandsIn-after (entries_of t.prefix) list (entries_of tail) stands)

tail-through : (tail middle whole : List Linked) → IsTailOf tail middle → IsTailOf middle whole → IsTailOf tail whole
tail-through tail middle whole t u = record { prefix = u.prefix ++ t.prefix; parted = u.parted ∙ ap (λ ls. u.prefix ++ ls) t.parted ∙ sym (append_assoc u.prefix t.prefix tail) }

module _ (fact : Entry → Type 0) (looks marks : List Look) (v : ℕ) (seen : IsSeen fact looks marks v) where
  -- a visit: what was seen is then what it found
  module _ (found : List Linked) (goes_on : IsTailOf (seen_of marks v) found) where
    short : All (Short v (length found)) marks
    short = All-weaker (λ m. m.node ≡ v → length m.found ≤ length (seen_of marks v)) (Short v (length found)) (λ m most at. let a = most at in let b = tail-length (seen_of marks v) found goes_on in omega arith) marks seen.longest

    pub seen-looked : seen_chain (looks ++ look_at v found ∷ []) (look_at v found ∷ marks) v ≡ entries_of found
    seen-looked =
        ap (λ ls. put_since (look_at v found ∷ marks) v (length ls) ++ entries_of ls) (last-here v found looks)
        ∙ ap (λ es. es ++ entries_of found) (since-none v (length found) (look_at v found ∷ marks) (All-cons (Short v (length found)) (look_at v found) marks (λ _. omega arith) short))

    pub IsSeen-looked : All fact (entries_of found) → IsSeen fact (looks ++ look_at v found ∷ []) (look_at v found ∷ marks) v
    IsSeen-looked met = record {
      longest = subst (λ ls. All (Short v (length ls)) (look_at v found ∷ marks)) (sym (mark-here v found marks)) (All-cons (Short v (length found)) (look_at v found) marks (λ _. omega arith) short);
      tail = record { prefix = []; parted = mark-here v found marks ∙ sym (last-here v found looks) };
      stands = subst (λ ls. StandsIn (seen_chain (looks ++ look_at v found ∷ []) (look_at v found ∷ marks) v) (entries_of ls)) (sym (mark-here v found marks)) (subst (λ es. StandsIn es (entries_of found)) (sym seen-looked) (StandsIn-self (entries_of found)));
      met = subst (All fact) (sym seen-looked) met;
    }

  -- a put: its entry is then the newest
  module _ (l : Linked) (older : List Linked) (goes_on : IsTailOf (seen_of marks v) older) where
    longer : length (seen_of marks v) < length (l ∷ older)
    longer = let a = tail-length (seen_of marks v) older goes_on in omega arith

    pub seen-put : seen_chain looks (look_at v (l ∷ older) ∷ marks) v ≡ l.entry ∷ seen_chain looks marks v
    seen-put = ap (λ es. es ++ entries_of (last_found looks v)) (since-here v (length (last_found looks v)) l older marks (let a = tail-length (last_found looks v) (seen_of marks v) seen.tail in omega (arith, a, longer)))

    pub IsSeen-put : fact l.entry → IsSeen fact looks (look_at v (l ∷ older) ∷ marks) v
    IsSeen-put keeps = record {
      longest = subst (λ ls. All (Short v (length ls)) (look_at v (l ∷ older) ∷ marks)) (sym (mark-here v (l ∷ older) marks))
          (All-cons (Short v (length (l ∷ older))) (look_at v (l ∷ older)) marks (λ _. omega arith)
          (All-weaker (λ m. m.node ≡ v → length m.found ≤ length (seen_of marks v)) (Short v (length (l ∷ older))) (λ m most at. let a = most at in omega (arith, longer, a)) marks seen.longest));
      tail = subst (IsTailOf (last_found looks v)) (sym (mark-here v (l ∷ older) marks)) (tail-through (last_found looks v) (seen_of marks v) (l ∷ older) seen.tail (record { prefix = l ∷ goes_on.prefix; parted = ap (λ ls. l ∷ ls) goes_on.parted }));
      stands = subst (λ ls. StandsIn (seen_chain looks (look_at v (l ∷ older) ∷ marks) v) (entries_of ls)) (sym (mark-here v (l ∷ older) marks))
          (subst (λ es. StandsIn es (entries_of (l ∷ older))) (sym seen-put) (inl (refl, tail-entries (seen_of marks v) older (seen_chain looks marks v) goes_on seen.stands)));
      met = subst (All fact) (sym seen-put) (All-cons fact l.entry (seen_chain looks marks v) keeps seen.met);
    }

-- nothing changes at another node
module _ (looks marks : List Look) (v u : ℕ) (other : v ≢ u) (found : List Linked) where
  pub seen-looked_else : seen_chain (looks ++ look_at v found ∷ []) (look_at v found ∷ marks) u ≡ seen_chain looks marks u
  seen-looked_else =
      ap (λ ls. put_since (look_at v found ∷ marks) u (length ls) ++ entries_of ls) (last-else v u found looks other)
      ∙ ap (λ es. es ++ entries_of (last_found looks u)) (since-else v u (length (last_found looks u)) found marks other)

  pub seen-put_else : seen_chain looks (look_at v found ∷ marks) u ≡ seen_chain looks marks u
  seen-put_else = ap (λ es. es ++ entries_of (last_found looks u)) (since-else v u (length (last_found looks u)) found marks other)

  longest-else : (fact : Entry → Type 0) → IsSeen fact looks marks u → All (λ m. m.node ≡ u → length m.found ≤ length (seen_of (look_at v found ∷ marks) u)) (look_at v found ∷ marks)
  longest-else fact seen =
      subst (λ ls. All (λ m. m.node ≡ u → length m.found ≤ length ls) (look_at v found ∷ marks)) (sym (mark-else v u found marks other))
      (All-cons (λ m. m.node ≡ u → length m.found ≤ length (seen_of marks u)) (look_at v found) marks (λ at. absurd (other at)) seen.longest)

  pub IsSeen-looked_else : (fact : Entry → Type 0) → IsSeen fact looks marks u → IsSeen fact (looks ++ look_at v found ∷ []) (look_at v found ∷ marks) u
  IsSeen-looked_else fact seen = record {
    longest = longest-else fact seen;
    tail = subst (λ ls. IsTailOf ls (seen_of (look_at v found ∷ marks) u)) (sym (last-else v u found looks other)) (subst (IsTailOf (last_found looks u)) (sym (mark-else v u found marks other)) seen.tail);
    stands = subst (λ es. StandsIn es (entries_of (seen_of (look_at v found ∷ marks) u))) (sym seen-looked_else) (subst (λ ls. StandsIn (seen_chain looks marks u) (entries_of ls)) (sym (mark-else v u found marks other)) seen.stands);
    met = subst (All fact) (sym seen-looked_else) seen.met;
  }

  pub IsSeen-put_else : (fact : Entry → Type 0) → IsSeen fact looks marks u → IsSeen fact looks (look_at v found ∷ marks) u
  IsSeen-put_else fact seen = record {
    longest = longest-else fact seen;
    tail = subst (IsTailOf (last_found looks u)) (sym (mark-else v u found marks other)) seen.tail;
    stands = subst (λ es. StandsIn es (entries_of (seen_of (look_at v found ∷ marks) u))) (sym seen-put_else) (subst (λ ls. StandsIn (seen_chain looks marks u) (entries_of ls)) (sym (mark-else v u found marks other)) seen.stands);
    met = subst (All fact) (sym seen-put_else) seen.met;
  }
