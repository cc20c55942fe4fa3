-- Pages of stable storage. Assumes nothing.
use Rattle.storage.specs.Timestamps.{blank_stamped}
use Rattle.storage.specs.declared.page.Page.{Page}

abbrev pub blank_page : Page
blank_page = record {
  incarnation = 0;
  written = blank_stamped;
  intended_sequence = 0;
  intended_code = 0;
}
