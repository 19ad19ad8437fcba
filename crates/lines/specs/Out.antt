-- Text that is put into lent bytes. Assumes nothing.
use Rattle.std.specs.Prelude.{ℕ, ◌≡◌, List}
use Rattle.lines.specs.Bytes.{put}
use Rattle.lines.specs.declared.Out.{Out}

-- the lent bytes, and the place in them that the text has come to
abbrev pub standing : Out → List ℕ × ℕ
standing o = (o.bytes.now, o.at)

-- this text was put, as much as there is room for, and the lent bytes are the same ones
pub record Puts (old new : Out) (text : List ℕ) : Type 0 where
  pub puts : standing new ≡ put (standing old) text
  pub same : new.bytes.ghost_name ≡ old.bytes.ghost_name
