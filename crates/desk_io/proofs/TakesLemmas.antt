-- How the parts that a desk takes join.
use Rattle.std.proofs.Common.{◌≡◌, ℕ, ◌+◌, ◌-◌, List, [], ◌++◌, length, take, drop, Option, Some, None, sym, ◌∙◌, ap, subst, append_assoc, length-drop}
use Rattle.std.proofs.Math.Seq.{take-add, take-length}
use Rattle.std.proofs.lemmas.List.{append-nil}
use Rattle.std.specs.FinMap as map
use Rattle.desk_io.specs.Contents.{Contents, Tells, created, written, spoken}
use Rattle.desk_io.specs.Takes.{Takes}
use Rattle.desk_io.specs.declared.write_out.Out.{Out}
use Rattle.desk_io.specs.declared.write_out.Out.TheVariants.{File, Said}
use Rattle.desk_io.proofs.FileLemmas.{appended-nil, appended-append, appended-created}

-- what was written to a file since it was created is the file
pub written-created : (name bytes : List ℕ) (a : Contents) → written bytes (created name a) ≡ record a { files = map.insert a.files name bytes; out = name }
written-created name bytes a = ap (λ f. record a { files = f; out = name }) (appended-created a.files name bytes)

-- a part that is written, and then another
pub written-append : (xs ys : List ℕ) (a : Contents) → written ys (written xs a) ≡ written (xs ++ ys) a
written-append xs ys a = ap (λ f. record a { files = f }) (appended-append a.files a.out xs ys)

-- no bytes are taken where nothing changes
Takes-nil : (out : Out) (a : Contents) → Takes out [] a a
Takes-nil File a = ap (λ f. record a { files = f }) (sym (appended-nil a.files a.out))
Takes-nil Said a = ap (λ s. record a { said = s }) (sym (append-nil a.said))

-- a part that is taken, and then another
Takes-append : (out : Out) (xs ys : List ℕ) (a b c : Contents) → Takes out xs a b → Takes out ys b c → Takes out (xs ++ ys) a c
Takes-append File xs ys a b c first next = next ∙ ap (written ys) first ∙ written-append xs ys a
Takes-append Said xs ys a b c first next = next ∙ ap (spoken ys) first ∙ ap (λ s. record a { said = s }) (append_assoc a.said xs ys)

-- the same of what a desk tells
pub taken-nil : (out : Out) (old : Option Contents) → Tells old old (Takes out [])
taken-nil out None = tt
taken-nil out (Some a) = Takes-nil out a

pub taken-append : (out : Out) (xs ys zs : List ℕ) → xs ++ ys ≡ zs → (old mid new : Option Contents) → Tells old mid (Takes out xs) → Tells mid new (Takes out ys) → Tells old new (Takes out zs)
taken-append out xs ys zs same None None None first next = tt
taken-append out xs ys zs same None None (Some c) first next = next
taken-append out xs ys zs same None (Some b) new first next = absurd first
taken-append out xs ys zs same (Some a) None new first next = absurd first
taken-append out xs ys zs same (Some a) (Some b) None first next = next
taken-append out xs ys zs same (Some a) (Some b) (Some c) first next = subst (λ bytes. Takes out bytes a c) same (Takes-append out xs ys a b c first next)

-- a prefix of the piece, and a prefix of what is left of it
pub take-rest : (done n : ℕ) (piece : List ℕ) → take done piece ++ take n (take (length piece - done) (drop done piece)) ≡ take (done + n) piece
take-rest done n piece =
    ap (λ m. take done piece ++ take n (take m (drop done piece))) (sym (length-drop done piece))
    ∙ ap (λ xs. take done piece ++ take n xs) (take-length (drop done piece))
    ∙ sym (take-add done n piece)
