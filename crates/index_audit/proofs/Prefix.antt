-- What stands in a row before a place.
use Rattle.std.proofs.Common.{◌≡◌, ℕ, ◌+◌, ◌<◌, List, Contains, length, map, get_or, take, sym, ap, subst, ◌∙◌, inl, inr, arith}
use Rattle.std.specs.List.Sorted.{IsStrictlyIncreasing}
use Rattle.std.proofs.lemmas.Bool.{cases_lt}
use Rattle.std.proofs.lemmas.List.{get_or-take, length-take, take-map}
use Rattle.std.proofs.lemmas.List.Elements.{Contains-get_or}
use Rattle.walk_laws.specs.declared.entry.Entry.{Entry}
use Rattle.walk_laws.proofs.LabelRows.{Rises}
use Rattle.hub_query.proofs.Sums.{pos_of}
use Rattle.index_audit.specs.Places.{pos_at}
use Rattle.index_audit.specs.Checks.{MeetAt, IsFirstMeet}
use Rattle.index_audit.proofs.Searched.{nothing, at_place, rises_at, rises_up_to}

IsStrictlyIncreasing-take : (xs : List ℕ) (n : ℕ) → IsStrictlyIncreasing xs → IsStrictlyIncreasing (take n xs)
IsStrictlyIncreasing-take xs n up k lt =
    omega (arith, up k (omega (arith, length-take n xs, lt)), get_or-take n xs k 0 (omega (arith, length-take n xs, lt)), get_or-take n xs (k + 1) 0 (omega (arith, length-take n xs, lt)))

pub prefix_rises : (row : List Entry) (n : ℕ) → IsStrictlyIncreasing (map (λ e. e.pos) row) → IsStrictlyIncreasing (map (λ e. e.pos) (take n row))
prefix_rises row n up = subst IsStrictlyIncreasing (take-map pos_of n row) (IsStrictlyIncreasing-take (map (λ e. e.pos) row) n up)

module _ (row : List Entry) (up : Rises pos_of row) (k : ℕ) (within : k < length row) where
  in_whole : (e : Entry) → Contains (take k row) e → Contains row e × (e.pos < pos_at row k)
  in_whole e h =
      let before : h.0 < k = omega (arith, length-take k row, h.1) in
      let here : get_or row h.0 nothing ≡ e = sym (get_or-take k row h.0 nothing before) ∙ at_place (take k row) e h in (
        subst (Contains row) here (Contains-get_or row h.0 nothing (omega (arith, before, within))),
        omega (arith, rises_at row up h.0 k before within, ap pos_of here),
      )

  in_prefix : (e : Entry) → Contains row e → e.pos < pos_at row k → Contains (take k row) e
  in_prefix e h less =
      let here : get_or row h.0 nothing ≡ e = at_place row e h in
      let before : h.0 < k = elim (cases_lt h.0 k) [
        | inl lt ↦ lt
        | inr not_before ↦ absurd (omega (arith, rises_up_to row up k h.0 not_before h.1, ap pos_of here, less))
      ] in
      subst (Contains (take k row)) (get_or-take k row h.0 nothing before ∙ here) (Contains-get_or (take k row) h.0 nothing (omega (arith, length-take k row, before, h.1)))

  module _ (other : List Entry) (d : ℕ) where
    meet_whole : (q : ℕ) → MeetAt (take k row) other d q → MeetAt row other d q
    meet_whole q m = record {
      sum = m.sum;
      both = record { before = m.both.before; after = m.both.after; in_first = (in_whole (record { pos = q; dist = m.both.before }) m.both.in_first).0; in_second = m.both.in_second; long = m.both.long };
      short = m.short;
    }

    pub meet_above : (q : ℕ) → MeetAt (take k row) other d q → q < pos_at row k
    meet_above q m = (in_whole (record { pos = q; dist = m.both.before }) m.both.in_first).1

    -- rows that meet above the place meet in what stands before it
    pub meet_prefix : (q : ℕ) → q < pos_at row k → MeetAt row other d q → MeetAt (take k row) other d q
    meet_prefix q less m = record {
      sum = m.sum;
      both = record { before = m.both.before; after = m.both.after; in_first = in_prefix (record { pos = q; dist = m.both.before }) m.both.in_first less; in_second = m.both.in_second; long = m.both.long };
      short = m.short;
    }

    -- and the first place where they meet there is the first of all
    pub first_whole : (q : ℕ) → IsFirstMeet (take k row) other d q → IsFirstMeet row other d q
    first_whole q first = record {
      here = meet_whole q first.here;
      least = λ r m. elim (cases_lt r (pos_at row k)) [
        | inl less ↦ first.least r (meet_prefix r less m)
        | inr not_less ↦ omega (arith, meet_above q first.here, not_less)
      ];
    }
