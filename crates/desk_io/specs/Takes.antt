-- Where written bytes go.
use Rattle.std.specs.Prelude.{◌≡◌, ℕ, List}
use Rattle.desk_io.specs.Contents.{Contents, written, spoken}
use Rattle.desk_io.specs.declared.write_out.Out.{Out}
use Rattle.desk_io.specs.declared.write_out.Out.TheVariants.{File, Said}

-- the created file, or standard output, has taken these bytes; nothing else changed
abbrev pub Takes : Out → List ℕ → Contents → Contents → Type 0
Takes File bytes a b = b ≡ written bytes a
Takes Said bytes a b = b ≡ spoken bytes a
