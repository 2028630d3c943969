use Rattle.report_options.proofs.FileWords.{read_of_file}
use Rattle.report_options.proofs.file_words.words_of_a_file.Goals as goal

pub returns : goal.returns
returns c = read_of_file
