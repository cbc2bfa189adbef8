use Rattle.std.proofs.Common.{◌≡◌, ◌+◌, ◌-◌, ℕ, length, take, drop, take_all, refl, sym, ap, ◌∙◌, length-drop, arith}
use Rattle.byteorder.specs.Endian.{big_number}
use Rattle.rw_kept_log.proofs.HeaderLemmas.{no_fragment, header_len, header_ends, header_no_zeros}
use Rattle.rw_kept_log.proofs.whole_records.read_header.Goals as goal

pub returns-then-not-has_header-clause-is : goal.returns-then-not-has_header-clause-is
returns-then-not-has_header-clause-is c =
    let none = c.has_header.ensures.no c.if-not-has_header.true in
    record {
      zeros_len = λ e. refl;
      zeros_end = λ e. refl;
      fragment_len = λ kind d e. absurd (no_fragment c.args.left c.args.bytes.now kind d c.requires.some none e);
      fragment_end = λ kind d e. absurd (no_fragment c.args.left c.args.bytes.now kind d c.requires.some none e);
    }

pub returns-clause-is : goal.returns-clause-is
returns-clause-is c =
    let there = c.has_header.ensures.yes c.if-not-has_header.false in
    let slice : take (length c.args.bytes.now - 1) (drop 1 c.args.bytes.now) ≡ drop 1 c.args.bytes.now =
    take_all (length c.args.bytes.now - 1) (drop 1 c.args.bytes.now) (omega (arith, length-drop 1 c.args.bytes.now)) in
    let len : c.from.result ≡ big_number 2 (drop 1 c.args.bytes.now) = c.from.ensures ∙ c.read_u16.ensures ∙ ap (big_number 2) slice in
    record {
      zeros_len = λ e. absurd (header_no_zeros c.args.left c.args.bytes.now c.requires.some there.0 there.2 e);
      zeros_end = λ e. absurd (header_no_zeros c.args.left c.args.bytes.now c.requires.some there.0 there.2 e);
      fragment_len = λ kind d e. ap (λ (n : ℕ). 7 + n) (len ∙ sym (header_len c.args.left c.args.bytes.now kind d c.requires.some e));
      fragment_end = λ kind d e. c.ends_record.ensures ∙ header_ends c.args.left c.args.bytes.now kind d c.requires.some e;
    }
