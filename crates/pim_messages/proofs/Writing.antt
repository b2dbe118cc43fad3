-- Messages that are written one after the other.
use Rattle.std.{proofs.{Common.{◌≡◌, ◌<◌, ◌≤◌, ℕ, suc, ◌+◌, add-one, List, [], ◌∷◌, ◌++◌, length, drop, get_or, subst, ap, ◌∙◌, sym, append_assoc, append-nil}, Math.{ListN.drop_of_length-le, Seq.drop-cons}}}
use Rattle.pim_types.{specs.declared.outcome.Emission.Emission}
use Rattle.pim_model.{specs.{Messages.Message, Querier.each_in_turn, State.InterfaceTable, Writing.{all_written, written}}}
use Rattle.pim_messages.{specs.{declared.message.Message.Message as Held, Sendable.{message_of, messages_of}}}

-- the messages that are left, after what was sent, end as all of them do
pub record Sends (left : List Message) (t : InterfaceTable) (sent : List Emission) (ms : List Message)
    (first : InterfaceTable) (before : List Emission) : Type 0 where
  pub sent_is : sent ++ (all_written t left).1 ≡ before ++ (all_written first ms).1
  pub left_is : (all_written t left).0 ≡ (all_written first ms).0

module _ (ms : List Message) (first : InterfaceTable) (before : List Emission) where
  -- after one message more
  sends_more : (m : Message) (rest : List Message) (t t' : InterfaceTable) (sent sent' : List Emission)
      → t' ≡ (written t m).0 → sent' ≡ sent ++ (written t m).1
      → Sends (m ∷ rest) t sent ms first before → Sends rest t' sent' ms first before
  unfolding all_written each_in_turn
  sends_more m rest t t' sent sent' et es h =
      let one : List Emission = (written t m).1 in
      let later : InterfaceTable × List Emission = all_written (written t m).0 rest in
      record {
        sent_is = ap (λ (x : InterfaceTable). sent' ++ (all_written x rest).1) et
            ∙ ap (λ (xs : List Emission). xs ++ later.1) es ∙ append_assoc sent one later.1 ∙ h.sent_is;
        left_is = ap (λ (x : InterfaceTable). (all_written x rest).0) et ∙ h.left_is;
      }

  -- the next message is written, where the messages that are left are those of the crate
  pub sends_next : (messages : List Held) (i : ℕ) (m : Held) (t t' : InterfaceTable) (sent sent' : List Emission)
      → i < length messages → m ≡ get_or messages i m
      → t' ≡ (written t (message_of m)).0 → sent' ≡ sent ++ (written t (message_of m)).1
      → Sends (messages_of (drop i messages)) t sent ms first before
      → Sends (messages_of (drop (i + 1) messages)) t' sent' ms first before
  sends_next messages i m t t' sent sent' lt em et es h =
      let here : drop i messages ≡ m ∷ drop (i + 1) messages =
      drop-cons messages i m lt
      ∙ ap (λ (x : Held). x ∷ drop (suc i) messages) (sym em)
      ∙ ap (λ (n : ℕ). m ∷ drop n messages) (sym (add-one i)) in
      let P : List Held → Type 0 = λ xs. Sends (messages_of xs) t sent ms first before in
      sends_more (message_of m) (messages_of (drop (i + 1) messages)) t t' sent sent' et es (subst P here h)

  -- no message is left
  pub sends_all : (messages : List Held) (i : ℕ) (t : InterfaceTable) (sent : List Emission) → length messages ≤ i
      → Sends (messages_of (drop i messages)) t sent ms first before
      → (sent ≡ before ++ (all_written first ms).1) × (t ≡ (all_written first ms).0)
  unfolding all_written each_in_turn
  sends_all messages i t sent le h =
      let P : List Held → Type 0 = λ xs. Sends (messages_of xs) t sent ms first before in
      let done : Sends [] t sent ms first before = subst P (drop_of_length-le messages le) h in
      (sym (append-nil sent) ∙ done.sent_is, done.left_is)
