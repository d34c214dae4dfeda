-- The padding of RFC 5652, section 6.3, for blocks of sixteen bytes: what is put behind a message, and what a decrypted text opens to.
use Rattle.std.specs.Prelude.{ℕ, ◌-◌, ◌%◌, Bool, cond, not, ◌&&◌, List, ◌++◌, leb, length, take, drop, get_or, replicate, Result, Ok, Err}
use Rattle.block.specs.Same.{same}
use Rattle.block.specs.Over.{over}
use Rattle.padding.specs.declared.BadPadding.{BadPadding}
use Rattle.padding.specs.declared.BadPadding.TheVariants.{InvalidLastU8, InvalidPadding}

-- the padding of a message of n bytes: always there, 1 to 16 bytes, each holding their count
abbrev pub padding : ℕ → List ℕ
padding n = replicate (16 - n % 16) (16 - n % 16)

abbrev pub padded : List ℕ → List ℕ
padded d = d ++ padding (length d)

abbrev pub last_byte : List ℕ → ℕ
last_byte p = get_or p (length p - 1) 0

-- 1 to 16 names a padding; 0 and 17 to 255 name none
unfoldable pub names_padding : ℕ → Bool
names_padding b = leb 1 b && leb b 16

-- the last byte tells how many bytes of padding there are, and each of them holds that count
unfoldable pub all_padding : List ℕ → Bool
all_padding p = same (drop (length p - last_byte p) p) (replicate (last_byte p) (last_byte p))

-- what is decided of a decrypted text: its length without its padding, or why it has none (W6)
unfoldable pub unpadded : List ℕ → Result ℕ BadPadding
unpadded p =
    cond (not (names_padding (last_byte p))) (Err InvalidLastU8) (cond (not (all_padding p)) (Err InvalidPadding) (Ok (length p - last_byte p)))

-- how many bytes of a text are written, by what is decided of it: a refusal writes none
abbrev pub kept : Result ℕ BadPadding → ℕ
kept (Ok n) = n
kept (Err b) = 0

-- opening the decrypted text p into the output o: the message over its front. The padding's bytes are not written.
unfoldable pub opened_into : List ℕ → List ℕ → List ℕ
opened_into p o = over (take (kept (unpadded p)) p) o
