-- A link as one word: 16 times the number of the record that it leads to, 0 for nil, and four bits.
use Rattle.std.specs.Prelude.{ℕ, ◌+◌, ◌*◌, ◌/◌, ◌%◌, Bool, true, false, nat_eq}
use Rattle.pp_link.specs.declared.link.Link.{Link}

abbrev pub bit : Bool → ℕ
bit false = 0
bit true = 1

-- the word of a link
abbrev pub word_of : Link → ℕ
word_of l = 16 * l.number + 8 * bit l.leaf + 4 * bit l.invalid + 2 * bit l.tag + bit l.flag

-- the number of the record that a word leads to
abbrev pub target : ℕ → ℕ
target word = word / 16

abbrev pub flag_bit : ℕ → ℕ
flag_bit word = word % 2

abbrev pub tag_bit : ℕ → ℕ
tag_bit word = word / 2 % 2

abbrev pub invalid_bit : ℕ → ℕ
invalid_bit word = word / 4 % 2

abbrev pub leaf_bit : ℕ → ℕ
leaf_bit word = word / 8 % 2

-- the link that a word packs
abbrev pub link_of : ℕ → Link
link_of word = record {
  number = target word;
  flag = nat_eq (flag_bit word) 1;
  tag = nat_eq (tag_bit word) 1;
  invalid = nat_eq (invalid_bit word) 1;
  leaf = nat_eq (leaf_bit word) 1;
}
