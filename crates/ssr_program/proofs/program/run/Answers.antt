use Rattle.std.proofs.Common.{inl, inr, ap, sym, ◌∙◌, append-nil, refl, string_bytes, codes}
use Rattle.ssr_program.specs.Output.{usage, input_refused, search_refused, refused, written}
use Rattle.ssr_program.specs.declared.commands.Form.TheVariants as forms
use Rattle.ssr_program.specs.Running.{wrong_words, told, unread, no_memory_for_input, no_memory}
use Rattle.ssr_program.proofs.Answering.{answered_file, answered_facts, answered_no_facts, goes_as}
use Rattle.ssr_program.proofs.program.run.Goals as goal

pub returns-in_default : goal.returns-in_default
returns-in_default g c = record { output = usage; answered = wrong_words (sym c.in_default.ensures) refl; goes = c.send.ensures }

pub returns-in-Err-Failed : goal.returns-in-Err-Failed
returns-in-Err-Failed g c = record {
  output = input_refused _ (codes "cannot be read");
  answered = unread _ _ (sym c.in-Some.ensures) (rw c.in-Err-Failed.field-0-is at c.in-Err-Failed.ensures);
  goes = c.refuse_input.ensures;
}

pub returns-in-Err-Memory : goal.returns-in-Err-Memory
returns-in-Err-Memory g c = record {
  output = input_refused _ (codes "out of memory");
  answered = no_memory_for_input _ _ (sym c.in-Some.ensures) (rw c.in-Err-Memory.field-0-is at c.in-Err-Memory.ensures);
  goes = c.refuse_input-in-Err-Memory.ensures;
}

pub returns-in-Ok-rewrite : goal.returns-in-Ok-rewrite
returns-in-Ok-rewrite g c = record {
  output = written (string_bytes c.in-Ok-rewrite.new);
  answered = told _ _ _ _ (sym c.in-Some.ensures) c.in-Ok.ensures c.in-Ok-rewrite.ensures;
  goes = goes_as _ _ _ _ _ (ap written (append-nil _ ∙ c.as_str.ensures.value)) c.send-in-Ok-rewrite.ensures;
}

pub returns-in-Err-NoText : goal.returns-in-Err-NoText
returns-in-Err-NoText g c = record {
  output = input_refused forms.File (codes "not UTF-8");
  answered = told _ _ _ _ (sym c.in-Some.ensures) c.in-Ok.ensures (rw c.in-Err-NoText.field-0-is at c.in-Err-NoText.ensures);
  goes = c.refuse_input-in-Err-NoText.ensures;
}

pub returns-in-Err-File : goal.returns-in-Err-File
returns-in-Err-File g c = record {
  output = input_refused forms.File _;
  answered =
      answered_file _ _ _ _ _ _ (sym c.in-Some.ensures) c.in-Ok.ensures c.in-Err-File.error
      (rw c.in-Err-File.field-0-is at c.in-Err-File.ensures);
  goes = goes_as _ _ _ _ _ (ap (input_refused forms.File) c.words_for.ensures) c.refuse_input-in-Err-File.ensures;
}

pub returns-in-Err-Facts : goal.returns-in-Err-Facts
returns-in-Err-Facts g c =
    let is = rw c.in-Err-Facts.field-0-is at c.in-Err-Facts.ensures in
    elim c.refuse_facts.ensures [
      | inl goes ↦ record {
        output = input_refused forms.Facts _;
        answered = answered_facts _ _ _ _ _ _ (sym c.in-Some.ensures) c.in-Ok.ensures c.in-Err-Facts.error is;
        goes = goes;
      }
      | inr goes ↦ record {
        output = input_refused forms.Facts (codes "out of memory");
        answered = answered_no_facts _ _ _ _ _ _ (sym c.in-Some.ensures) c.in-Ok.ensures c.in-Err-Facts.error is;
        goes = goes;
      }
    ]

pub returns-in-Err-Search : goal.returns-in-Err-Search
returns-in-Err-Search g c = record {
  output = search_refused (string_bytes c.in-Err-Search.message);
  answered = told _ _ _ _ (sym c.in-Some.ensures) c.in-Ok.ensures (rw c.in-Err-Search.field-0-is at c.in-Err-Search.ensures);
  goes = goes_as _ _ _ _ _ (ap search_refused c.as_str-in-Err-Search.ensures.value) c.send-in-Err-Search.ensures;
}

pub returns-in-Err-Clash : goal.returns-in-Err-Clash
returns-in-Err-Clash g c = record {
  output = refused (string_bytes c.in-Err-Clash.words);
  answered = told _ _ _ _ (sym c.in-Some.ensures) c.in-Ok.ensures (rw c.in-Err-Clash.field-0-is at c.in-Err-Clash.ensures);
  goes = goes_as _ _ _ _ _ (ap refused c.as_str-in-Err-Clash.ensures.value) c.send-in-Err-Clash.ensures;
}

pub returns-in-Err-Memory-rewrite : goal.returns-in-Err-Memory-rewrite
returns-in-Err-Memory-rewrite g c = record {
  output = refused (codes "out of memory");
  answered = no_memory _ _ _ (sym c.in-Some.ensures) c.in-Ok.ensures (rw c.in-Err-Memory-rewrite.field-0-is at c.in-Err-Memory-rewrite.ensures);
  goes = c.send-in-Err-Memory-rewrite.ensures;
}
