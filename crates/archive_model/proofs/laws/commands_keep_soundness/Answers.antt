use Rattle.archive_model.specs.Sound.{HasSoundMessages, AddsWritableItem}
use Rattle.archive_model.proofs.RunLemmas.{kept_by_steps, kept_by_runs}
use Rattle.archive_model.proofs.SoundLemmas.{soundness}
use Rattle.archive_model.proofs.laws.commands_keep_soundness.Goals as goal

pub returns-clause-step : goal.returns-clause-step
returns-clause-step c = kept_by_steps HasSoundMessages AddsWritableItem (soundness (record {
  whole = c.a_whole_text_is_its_own_whole_text.ensures.whole;
  items = c.whole_items_stay_items.ensures;
}))

pub returns-clause-run : goal.returns-clause-run
returns-clause-run c = kept_by_runs HasSoundMessages AddsWritableItem (soundness (record {
  whole = c.a_whole_text_is_its_own_whole_text.ensures.whole;
  items = c.whole_items_stay_items.ensures;
}))
