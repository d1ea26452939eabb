-- A text as UTF-16 units, and units as a text.
use Rattle.std.specs.Prelude.{◌≡◌, ℕ, List}
use Rattle.std.specs.List.{flat_map}
use Rattle.std.specs.Str.{chars, encode_utf8_all}
use Rattle.std.specs.Char.Escape.{encode_utf16}
use Rattle.std.specs.Char.Utf16.{utf16_lossy_chars}

-- the UTF-16 units of a text of these bytes: one or two for each character, in order
unfoldable pub utf16 : List ℕ → List ℕ
utf16 bytes = flat_map encode_utf16 (chars bytes)

-- the bytes of the text that these units spell: the UTF-8 of each character, in order
unfoldable pub utf8 : List ℕ → List ℕ
utf8 units = encode_utf8_all (utf16_lossy_chars units)

-- The units and the bytes are one text: the bytes have these units, and the units spell these bytes.
pub record IsOneText (units bytes : List ℕ) : Type 0 where
  pub has_units : utf16 bytes ≡ units
  pub spells : utf8 units ≡ bytes
