-- The word and the parts of a link determine each other.
use Rattle.std.proofs.Common.{◌≡◌, ℕ, ◌/◌, ◌%◌, ◌<◌, zero, suc, Bool, true, false, nat_eq, refl, arith, ap}
use Rattle.pp_link.specs.declared.link.Link.{Link}
use Rattle.pp_link.specs.Links.{bit, word_of, link_of, target, flag_bit, tag_bit, invalid_bit, leaf_bit}

-- a remainder by 2 is the bit that it is read as
pub bit_of : (r : ℕ) → r < 2 → bit (nat_eq r 1) ≡ r
bit_of zero low = refl
bit_of (suc zero) low = refl
bit_of (suc (suc r)) low = absurd (omega arith)

pub word_of-link_of : (w : ℕ) → word_of (link_of w) ≡ w
word_of-link_of w =
    let flag : bit (nat_eq (w % 2) 1) ≡ w % 2 = bit_of (w % 2) (omega arith) in
    let tag : bit (nat_eq (w / 2 % 2) 1) ≡ w / 2 % 2 = bit_of (w / 2 % 2) (omega arith) in
    let invalid : bit (nat_eq (w / 4 % 2) 1) ≡ w / 4 % 2 = bit_of (w / 4 % 2) (omega arith) in
    let leaf : bit (nat_eq (w / 8 % 2) 1) ≡ w / 8 % 2 = bit_of (w / 8 % 2) (omega arith) in
    omega arith

pub bit_small : (b : Bool) → bit b < 2
bit_small false = omega arith
bit_small true = omega arith

pub read_bit : (b : Bool) (r : ℕ) → r ≡ bit b → nat_eq r 1 ≡ b
read_bit false r e = ap (λ k. nat_eq k 1) e
read_bit true r e = ap (λ k. nat_eq k 1) e

pub link_of-word_of : (l : Link) → link_of (word_of l) ≡ l
link_of-word_of l =
    let leaf = bit_small l.leaf in
    let invalid = bit_small l.invalid in
    let tag = bit_small l.tag in
    let flag = bit_small l.flag in
    let number : target (word_of l) ≡ l.number = omega arith in
    let flag_is : nat_eq (flag_bit (word_of l)) 1 ≡ l.flag = read_bit l.flag _ (omega arith) in
    let tag_is : nat_eq (tag_bit (word_of l)) 1 ≡ l.tag = read_bit l.tag _ (omega arith) in
    let invalid_is : nat_eq (invalid_bit (word_of l)) 1 ≡ l.invalid = read_bit l.invalid _ (omega arith) in
    let leaf_is : nat_eq (leaf_bit (word_of l)) 1 ≡ l.leaf = read_bit l.leaf _ (omega arith) in
    λ i. record { number = number i; flag = flag_is i; tag = tag_is i; invalid = invalid_is i; leaf = leaf_is i }
