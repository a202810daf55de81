-- Changes of what a desk tells, one after another.
use Rattle.std.specs.Prelude.{Option, Some, None}
use Rattle.desk_io.specs.Contents.{Contents, Tells}

-- two changes of a desk's bytes, one after the other
pub chained : {P Q R : Contents → Contents → Type 0} (old mid new : Option Contents) → Tells old mid P → Tells mid new Q → ((a b c : Contents) → P a b → Q b c → R a c) → Tells old new R
chained None None None p q both = tt
chained None None (Some c) p q both = q
chained None (Some b) None p q both = tt
chained None (Some b) (Some c) p q both = p
chained (Some a) None new p q both = absurd p
chained (Some a) (Some b) None p q both = q
chained (Some a) (Some b) (Some c) p q both = both a b c p q

-- the same change told in other words
pub retold : {P R : Contents → Contents → Type 0} (old new : Option Contents) → Tells old new P → ((a b : Contents) → P a b → R a b) → Tells old new R
retold None None p f = tt
retold None (Some b) p f = p
retold (Some a) None p f = p
retold (Some a) (Some b) p f = f a b p

-- what nothing does
pub unchanged : (P : Contents → Contents → Type 0) (told : Option Contents) → ((a : Contents) → P a a) → Tells told told P
unchanged P None h = tt
unchanged P (Some a) h = h a
