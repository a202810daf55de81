-- A file that was created, and then written to.
use Rattle.std.proofs.Common.{◌≡◌, inr, ℕ, List, take, ap, ◌∙◌}
use Rattle.std.specs.Prelude.{Option, Some}
use Rattle.desk_io.specs.Contents.{Contents, Tells, created, written}
use Rattle.desk_io.specs.Takes.{Takes}
use Rattle.desk_io.specs.declared.write_out.Out.TheVariants.{File}
use Rattle.desk_io.proofs.TakesLemmas.{written-created}
use Rattle.chl_answers.specs.Outcome.{given, GivesPrefix}
use Rattle.chl_inputs.proofs.ToldChanges.{chained}

module _ (name other bytes : List ℕ) (same : name ≡ other) (old mid new : Option Contents) (first : Tells old mid (λ a b. b ≡ created name a)) where
  -- all bytes
  pub whole_file : Tells mid new (Takes File bytes) → Tells old new (λ a b. b ≡ given (Some other) bytes a)
  whole_file next = chained old mid new first next (λ a b c e f.
      f ∙ ap (written bytes) (e ∙ ap (λ n. created n a) same) ∙ written-created other bytes a)

  -- a prefix of them
  pub part_of_file : Tells mid new (λ a b. (k : ℕ) × Takes File (take k bytes) a b) → Tells old new (GivesPrefix (Some other) bytes)
  part_of_file next = chained old mid new first next (λ a b c e f.
      inr (f.0, f.1 ∙ ap (written (take f.0 bytes)) (e ∙ ap (λ n. created n a) same) ∙ written-created other (take f.0 bytes) a))
