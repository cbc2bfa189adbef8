pub mod ReceiverUrls
