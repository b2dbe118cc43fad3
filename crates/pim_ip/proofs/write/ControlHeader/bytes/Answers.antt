use Rattle.std.{proofs.Common.{◌≡◌, ℕ, ◌+◌, ◌-◌, ◌%◌, ◌≤◌, Bool, true, false, cond, List, [], ◌∷◌, ◌++◌, length, take, drop, sym, ap, ◌∙◌, refl, lit≤}}
use borrow.{Rule.Slice.PartMut.put_mid}
use Rattle.pim_ip.{specs.{Ipv4.{header_text, router_alert}, ControlHeader.options_of}, proofs.{ViewLemmas.written_reads, WritingLemmas.take-header}}
use Rattle.pim_ip.proofs.write.ControlHeader.bytes.Goals as goal

pub returns-clause-text : goal.returns-clause-text
unfolding header_text
returns-clause-text c =
    let n = c.length-header_length.result in
    let fields : List ℕ = c.copy_from_slice.new.self in
    let options : List ℕ = c.copy_from_slice-2.new.self in
    let filled : List ℕ = put_mid 20 (n - 20) (fields ++ (0 ∷ 0 ∷ 0 ∷ 0 ∷ [])) options in
    let options_are : options ≡ options_of c.args.self.now = c.copy_from_slice-2.ensures.after ∙ c.options.ensures in
    let fields_are = c.copy_from_slice.ensures.after ∙ c.fields.ensures.value in
    let long : n ≡ 20 + length options = c.length-header_length.ensures ∙ ap (λ (xs : List ℕ). 20 + length xs) (sym options_are) in
    ap (λ (m : ℕ). take m (c.set_checksum.new.bytes ++ drop n filled)) (sym c.length-header_length.ensures)
    ∙ take-header fields options filled c.set_checksum.new.bytes n c.copy_from_slice.ensures.len long refl c.set_checksum.ensures.set
    ∙ rw (fields_are, options_are) refl

-- Router Alert is one word
whole_words : (alert : Bool) → (length (cond alert router_alert []) % 4 ≡ 0) × (length (cond alert router_alert []) ≤ 40)
whole_words true = (refl, lit≤ tt)
whole_words false = (refl, lit≤ tt)

pub returns-clause-reads : goal.returns-clause-reads
returns-clause-reads c = λ payload e lawful.
    let header = c.args.self.now in
    let words = whole_words header.router_alert in
    rw (← e) (written_reads (options_of header) header.time_to_live header.protocol header.source.bits header.destination.bits payload words.0 words.1 c.fields.ensures.in_range lawful)
