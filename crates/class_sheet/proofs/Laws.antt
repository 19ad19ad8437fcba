-- Laws of the layout. Assumes nothing.
use mathlib.Core.Path.{◌≡◌, refl, ◌∙◌}
use mathlib.Core.List.{List}
use Prim.Native.Nat.{ℕ, ◌≤◌}
use native.Mathlib.Omega.{arith}
use lib.ListN.{length, take, drop}
use Rattle.words.proofs.Laws.{part-rest}
use Rattle.text.specs.Text.{unpacked_text}
use Rattle.class_sheet.specs.ClassSheet.{class_limit, method_limit, field_limit, interface_limit, compiler_limit, text_limit, content_limit, block_limit, sheet_words, class_count, method_count, field_count, interface_count, compiler_count, text_length, methods_at, fields_at, interfaces_at, compilers_at, text_at, content_end, text_words}

-- the text unpacked from the part that begins at the text section
pub text_is : (ws d : List ℕ) {n m at : ℕ} {p t : List ℕ} → at ≡ text_at ws → n ≡ length ws → p ≡ take n (drop at ws)
    → m ≡ text_length ws → t ≡ unpacked_text p m d → t ≡ unpacked_text (text_words ws) (text_length ws) d
text_is ws d e f g k h = h ∙ rw (g, f, e, k, part-rest ws (text_at ws))

-- ---- the most words that the content has, the blocks that hold them, and their words, as numbers

pub sizes : (content_limit ≡ 11654) × (block_limit ≡ 92) × (sheet_words ≡ 11684)
sizes = (refl, refl, refl)

-- a sheet's counts are within their limits
pub record Within (ws : List ℕ) : Type 0 where
  pub classes : class_count ws ≤ class_limit
  pub methods : method_count ws ≤ method_limit
  pub fields : field_count ws ≤ field_limit
  pub interfaces : interface_count ws ≤ interface_limit
  pub compilers : compiler_count ws ≤ compiler_limit
  pub text : text_length ws ≤ text_limit

pub content-within : (ws : List ℕ) → Within ws → content_end ws ≤ content_limit
unfolding content_end text_at compilers_at interfaces_at fields_at methods_at
content-within ws w = omega arith
