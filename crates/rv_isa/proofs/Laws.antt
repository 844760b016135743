-- Coding and decoding are inverse to each other, on the instructions that can be encoded and on the words that decode.
use Rattle.std.proofs.Common.{◌≡◌, ℕ, ◌^◌, ◌<◌, subst}
use Rattle.std.specs.Prelude.{Some}
use Rattle.rv_isa.specs.declared.insn.Insn.{Insn}
use Rattle.rv_isa.specs.Encode.{IsEncodable, encode_of, HasWord}
use Rattle.rv_isa.specs.Decode.{decode_of}
use Rattle.rv_isa.proofs.Forth
use Rattle.rv_isa.proofs.Kept

-- each instruction that can be encoded is that of its word
pub encode-decode : (i : Insn) → IsEncodable i → decode_of (encode_of i) ≡ Some i
encode-decode i h = Forth.encode-decode i h

-- a word has 32 bits
pub encode-small : (i : Insn) → IsEncodable i → encode_of i < 2 ^ 32
encode-small i h = Forth.encode-small i h

-- a word decodes only to an instruction that has it
pub decode-encode : (w : ℕ) (i : Insn) → w < 2 ^ 32 → decode_of w ≡ Some i → HasWord w i
decode-encode w i h e = (Kept.decoded w h).kept i e

-- a word decodes to each instruction that has it
pub HasWord-decode : (w : ℕ) (i : Insn) → HasWord w i → decode_of w ≡ Some i
HasWord-decode w i h = let P : ℕ → Type 0 = λ n. decode_of n ≡ Some i in subst P h.word (Forth.encode-decode i h.encodable)
