-- The answers that take no memory.
use Rattle.std.proofs.Common.{◌≡◌, ◌∙◌, ◌++◌, sym, ap, refl, arith, decimal, ℕ, List}
use Rattle.std.specs.Prelude.{codes, Result, Ok, Err, IfOk}
use Rattle.std.proofs.lemmas.Fmt.{decimal-digits_value}
use Rattle.serde_json.specs.Written.{compact_text}
use Rattle.serde_json.proofs.OnLiterals.{serde_json_on_literals}
use Rattle.hall_desk.specs.declared.reply.Reply.{Reply}
use Rattle.hall_desk.specs.declared.reply.Reply.TheVariants.{Unavailable as NotServed}
use Rattle.hall_http.specs.declared.answer.Answer.TheVariants.{Unavailable}
use Rattle.hall_http.specs.declared.status.Status.TheVariants as status
use Rattle.hall_http.specs.declared.status.MediaType.TheVariants as media
use Rattle.hall_http.specs.Reply.{BytesOf, head_bytes, unavailable_data, fault_data}
use Rattle.hall_http.specs.Served.{refusal}
use Rattle.hall_http.specs.declared.form.FormFault.TheVariants as fault
use Rattle.hall_http.specs.Answered.{answer_text}
use Rattle.hall_http.proofs.Texts.{own}

sixteen : decimal 16 ≡ codes "16"
sixteen = decimal-digits_value own (codes "16") refl (omega arith) (λ e. omega arith) (omega arith)

pub unavailable_reply : BytesOf NotServed (answer_text Unavailable)
unfolding serde_json_on_literals
unavailable_reply =
    ap (λ size. head_bytes status.Unavailable media.Json ++ ((codes "\r\nContent-Length: "
    ++ (size ++ codes "\r\n\r\n")) ++ compact_text unavailable_data)) (sym sixteen)

-- a text of 503 is the reply Unavailable
pub unavailable_bytes : {S E : Type 0} (bytes : S → List ℕ) (given : Reply) (r : Result S E) → given ≡ NotServed
    → IfOk r (λ s. bytes s ≡ answer_text Unavailable) → IfOk r (λ s. BytesOf given (bytes s))
unavailable_bytes bytes given (Ok s) is told = rw is (told ∙ unavailable_reply)
unavailable_bytes bytes given (Err e) is told = told

thirteen : decimal 13 ≡ codes "13"
thirteen = decimal-digits_value own (codes "13") refl (omega arith) (λ e. omega arith) (omega arith)

pub refusal_text : codes
    "HTTP/1.1 400 Bad Request\r\nContent-Type: application/json\r\nContent-Length: 13\r\n\r\n{\"form\":\"F7\"}" ≡
    refusal
unfolding serde_json_on_literals
refusal_text =
    ap (λ size. head_bytes status.BadRequest media.Json ++ ((codes "\r\nContent-Length: " ++ (size ++ codes "\r\n\r\n"))
    ++ compact_text (fault_data fault.NotWhole))) (sym thirteen)
